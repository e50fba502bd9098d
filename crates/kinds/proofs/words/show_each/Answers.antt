-- The buffer has the list's length, and at each place the list's value.
use Rattle.std.proofs.Common.{◌∙◌, sym, arith}
use Rattle.std.proofs.lemmas.List.{ext_get_or}
use Rattle.kinds.proofs.words.show_each.Goals as goal

pub returns : goal.returns
returns g c xs d long gives =
    let counted = c.if-out-n.false in (
      counted,
      ext_get_or d c.loop-i.out xs (c.loop-i.auto.out ∙ counted ∙ sym long)
          (λ k h. gives k _ (omega (arith, h, c.loop-i.auto.out, counted)) (c.loop-i.invariant k d (omega (arith, h, c.loop-i.auto.out, c.loop-i-test.false)))),
    )
