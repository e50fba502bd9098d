-- Each turn adds eight rows, and at the end none is left.
use Rattle.std.proofs.Common.{◌≡◌, ◌+◌, ◌-◌, ◌*◌, ◌/◌, ◌<◌, length, get_or, [], ap, subst, ◌∙◌, arith, rules}
use borrow.Rule.Slice.PartMut.{put_mid}
use Rattle.std.proofs.lemmas.List.{get_or_past}
use Rattle.poly.specs.Lists.{at}
use Rattle.poly.proofs.Windows.{Left, left_more, left_all, chunk_at}
use Rattle.poly.proofs.lanes.by_rows.Goals as goal

pub loop-k-preserved : goal.loop-k-preserved
loop-k-preserved c =
    let a = c.args.a.now in
    let b = c.args.b.now in
    let k = c.loop-k.k in
    let n = length b in
    let w = 8 * k + n + 8 - 8 * k in
    let p = c.loop-k.p in
    let long : length p ≡ 2 * n = omega (arith, c.loop-k.auto.p, c.fill.ensures.len, c.requires.room) in
    let below : k < length a / 8 = omega (arith, c.loop-k-test.true, c.as_chunks.ensures.front_len) in
    let part : length c.add_rows.new.sums ≡ w = search rules in
    let chunk = get_or c.as_chunks.result.0.now k [] in
    subst (λ i. Left (at a) (at b) i (put_mid (8 * k) w p c.add_rows.new.sums)) (omega arith)
    (left_more (at a) (at b) n (8 * k) w p chunk c.padded-padded.result c.add_rows.new.sums
    (λ j h. get_or_past b j 0 h) (omega arith) (omega (arith, long, below, c.requires.eights, c.requires.alike)) part
    (λ j h. ap (λ xs. at (get_or xs k []) j) c.as_chunks.ensures.front ∙ chunk_at (length a / 8) k j a below h)
    c.padded-padded.ensures c.add_rows.ensures c.loop-k.invariant)

pub returns : goal.returns
returns c k h = left_all (at c.args.a.now) (at c.args.b.now) (8 * c.loop-k.k) c.loop-k.p
    (λ j. get_or_past c.args.a.now (8 * c.loop-k.k + j) 0 (omega (arith, c.requires.alike, c.requires.eights, c.as_chunks.ensures.front_len, c.loop-k-test.false))) c.loop-k.invariant k
