-- The three products make up the whole.
use Rattle.std.proofs.Common.{◌≡◌, ◌/◌, length, arith, rules}
use Rattle.poly.proofs.Halves.{halves}
use Rattle.poly.proofs.lanes.+multiply.Goals as goal

pub returns : goal.returns
returns t c k h =
    let n = length c.args.b.now in
    let long_sa : length c.put_sums.new.out ≡ n / 2 = search rules in
    let long_sb : length c.put_sums-2.new.out ≡ n / 2 = search rules in
    let long_low : length c.multiply.new.p ≡ n = search rules in
    let long_high : length c.multiply-2.new.p ≡ n = search rules in
    let long_middle : length c.multiply-3.new.p ≡ n = search rules in
    halves n (n / 2) (omega (arith, c.if-n-ne0.false)) c.args.a.now c.args.b.now
    c.split_at.result.0.now c.split_at.result.1.now c.split_at-2.result.0.now c.split_at-2.result.1.now
    c.put_sums.new.out c.put_sums-2.new.out c.multiply.new.p c.multiply-2.new.p c.multiply-3.new.p c.join.new.p
    c.split_at.ensures.by_index.0 c.split_at-2.ensures.by_index.0 (search rules) (search rules) (search rules) (search rules)
    long_sa c.put_sums.ensures long_sb c.put_sums-2.ensures
    long_low c.multiply.ensures long_high c.multiply-2.ensures long_middle c.multiply-3.ensures c.join.ensures k
