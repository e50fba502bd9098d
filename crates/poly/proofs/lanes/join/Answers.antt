-- What is left of the middle is added half way.
use Rattle.std.proofs.Common.{◌≡◌, ◌+◌, ◌-◌, ◌/◌, ◌%◌, ◌<◌, length, arith, rules}
use Rattle.poly.specs.Lists.{at}
use Rattle.poly.proofs.Halves.{joined}
use Rattle.poly.proofs.lanes.join.Goals as goal

pub returns : goal.returns
returns c =
    let p = c.args.p.now in
    let m = c.args.middle.now in
    let l = c.put_each.new.xs in
    let s = c.put_each-2.new.xs in
    let h = length m / 2 in
    let w = h + length m - h in
    let part : length s ≡ w = search rules in
    let left : length l ≡ length m = search rules in
    joined (length m) w p m l s
    (omega arith) (omega (arith, c.requires)) part (omega arith) left
    (λ k z. let low : at c.split_at.result.0.now k < 65536 = search rules in
    let high : at c.split_at.result.1.now k < 65536 = search rules in
    let e = at m k + (65536 - at c.split_at.result.0.now k) + (65536 - at c.split_at.result.1.now k) in
    let taken : at l k % 65536 ≡ e % 65536 = search rules in
    omega (arith, taken, low, high, c.split_at.ensures.by_index.1 k 0 z, c.split_at.ensures.by_index.2 k 0))
    (λ k z. search rules)
