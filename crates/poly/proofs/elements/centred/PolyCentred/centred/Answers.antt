-- There are as many numbers as coefficients, and each is its coefficient's.
use Rattle.std.proofs.Common.{pos, sym, ◌∙◌, arith, rules}
use Rattle.std.proofs.lemmas.List.{length-map, get_or-map}
use Rattle.poly.specs.Centred.{centred, centred_numbers}
use Rattle.poly.specs.Modulus.{modulus}
use Rattle.poly.proofs.elements.centred.PolyCentred.centred.Goals as goal

pub returns : goal.returns
returns g c =
    let x = c.args.self.now in
    let f = centred (modulus g.row.M) in
    c.show_each.ensures (centred_numbers x) (pos 0) (length-map x.coeffs f ∙ x.long)
    (λ i number h is. search rules ∙ sym (get_or-map f x.coeffs i 0 (pos 0) (omega (arith, h, x.long))))
