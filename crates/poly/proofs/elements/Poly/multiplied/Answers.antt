-- The sums are the coefficients of the product, and folding reduces it.
use Rattle.std.proofs.Common.{◌≡◌, true, ◌∙◌, arith, rules}
use Rattle.poly.specs.Quotient.{quotient}
use Rattle.poly.specs.Sizes.{served}
use Rattle.poly.proofs.Exact.{bounds}
use Rattle.poly.proofs.Folded.{folded_product}
use Rattle.poly.proofs.elements.Poly.multiplied.Goals as goal

pub returns : goal.returns
returns g c =
    let within : served g.row.N g.row.M ≡ true = search rules in
    let s = bounds g.row.N g.row.M within in
    record {
      value = c.folded.ensures ∙ folded_product g.row.N g.row.M s c.args.self.now c.args.other.now c.put_product.new.p
          (λ k h. c.put_product.ensures k (omega (arith, c.args.self.now.long, c.args.other.now.long)));
      quotient = quotient g.row.N g.row.M;
    }
