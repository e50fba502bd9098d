-- What is written grows by the piece that the rest begins with.
use Rattle.std.proofs.Common.{◌++◌, append_assoc, ap, sym, ◌∙◌, rules}
use Rattle.std.proofs.KnownBytes.{Appends-trans}
use Rattle.programs.proofs.serving.write_pieces.Goals as goal

pub loop-piece-preserved : goal.loop-piece-preserved
loop-piece-preserved g c =
    let so_far = c.loop-piece.invariant in
    let piece = c.in-Some.piece.now in (
      search rules,
      tt,
      so_far.2 ++ piece,
      Appends-trans _ _ _ so_far.2 piece so_far.3 c.in_ok-write_all.ensures.bytes,
      append_assoc so_far.2 _ _ ∙ ap (λ t. so_far.2 ++ t) (sym c.in-Some.ensures.steps.1.0) ∙ so_far.4,
    )
