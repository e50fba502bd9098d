-- `ends` holds for no byte before the offset, and for the one at it, or none is left.
use Rattle.std.proofs.Common.{◌≡◌, length, true, false, get_or, sym, ap, ◌∙◌, arith, inl, inr}
use Rattle.std.proofs.lemmas.Bool.{cases_lt}
use Rattle.text.proofs.Cutting.{first_at, none_ahead}
use Rattle.text.proofs.cuts.end.Goals as goal

pub returns-then-ends-clause-offset : goal.returns-then-ends-clause-offset
returns-then-ends-clause-offset g c p is =
    first_at p c.args.text.now c.args.from c.loop-i.i c.loop-i.auto.i (omega (arith, c.loop-i-test.true)) (c.loop-i.invariant p is)
    (λ h. sym (is _ true c.if-ends.ensures))

pub loop-i-preserved : goal.loop-i-preserved
loop-i-preserved g c p is k behind before =
    elim (cases_lt k c.loop-i.i) [
      | inl less ↦ c.loop-i.invariant p is k behind less
      | inr last ↦ ap (λ j. p (get_or c.args.text.now j 0)) (omega arith) ∙ sym (is _ false c.if-ends.ensures)
    ]

pub returns-clause-offset : goal.returns-clause-offset
returns-clause-offset g c p is =
    c.max.ensures
    ∙ elim (cases_lt (length c.args.text.now) c.args.from) [
      | inl past ↦ (omega arith) ∙ none_ahead p c.args.text.now c.args.from (omega arith)
      | inr ahead ↦
          let last : c.loop-i.i ≡ length c.args.text.now = omega (arith, c.loop-i-test.false, c.loop-i.auto.i-end ahead) in
          (omega arith) ∙ sym last ∙ first_at p c.args.text.now c.args.from c.loop-i.i c.loop-i.auto.i (omega arith) (c.loop-i.invariant p is) (λ h. absurd (omega arith))
    ]
