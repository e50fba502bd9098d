-- Each turn takes the words of one element.
use Rattle.std.proofs.Common.{length}
use Rattle.kinds.proofs.Filling.{filled_more}
use Rattle.kinds.proofs.words.fill.Goals as goal

pub loop-slot-preserved : goal.loop-slot-preserved
loop-slot-preserved g c =
    simp (c.from_words.ensures, c.split_at.ensures.front, c.split_at.ensures.back, c.WORDS.ensures, g.met.K.Kind.words_is)
    (filled_more g.K.Kind.coding (length c.args.list.now) c.args.words.now g.K.Kind.codes
    c.loop-slot.slot-index c.loop-slot.list c.loop-slot.rest.now c.loop-slot-test.true c.loop-slot.auto.list c.loop-slot.invariant)
