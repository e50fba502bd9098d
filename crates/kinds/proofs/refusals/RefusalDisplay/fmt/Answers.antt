-- The number and the words are those of this case.
use Rattle.kinds.proofs.refusals.RefusalDisplay.fmt.Goals as goal

pub returns-in-CoefficientTooLarge-clause-writes : goal.returns-in-CoefficientTooLarge-clause-writes
returns-in-CoefficientTooLarge-clause-writes g c =
    simp c.in-CoefficientTooLarge.is (simp (c.number-number.ensures, c.text-text.ensures, c.in-CoefficientTooLarge.is) at c.write.ensures.writes)
