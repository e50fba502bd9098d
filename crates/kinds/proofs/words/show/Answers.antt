-- The closure gives the element's words.
use Rattle.std.proofs.Common.{rules, arith, ◌≡◌, length}
use Rattle.kinds.proofs.words.show.Goals as goal

pub returns : goal.returns
returns g c =
    let width : c.WORDS.result ≡ g.K.Kind.coding.width = search rules in
    let long : length (g.K.Kind.coding.words c.args.x.now) ≡ g.K.Kind.coding.width = search rules in
    simp width at (c.show_each.ensures (g.K.Kind.coding.words c.args.x.now) 0 (omega (arith, width, long)) (λ i w h p. search rules))
