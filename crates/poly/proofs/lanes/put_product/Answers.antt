-- The widened factors have the same product.
use Rattle.std.proofs.Common.{◌≡◌, ◌+◌, ◌-◌, ◌*◌, ◌/◌, ◌%◌, length, sym, ap, ◌∙◌, ap₂, mod-eq_of_lt, arith, rules}
use Rattle.std.proofs.lemmas.List.{get_or_append_left}
use Rattle.poly.specs.Lanes.{conv}
use Rattle.poly.proofs.Windows.{widened}
use Rattle.poly.proofs.lanes.put_product.Goals as goal

pub returns : goal.returns
returns g c k h =
    let N = g.row.N in
    let n = N / 64 * 64 + 64 in
    let w = 8 + n - 8 in
    let p = c.multiply.new.p in
    let long_a : length c.args.a.now ≡ N = search rules in
    let long_b : length c.args.b.now ≡ N = search rules in
    let long : length p ≡ 2 * n - 0 = search rules in
    sym (mod-eq_of_lt (c.type_inv.p k).fits)
    ∙ ap (λ v. v % 65536) (get_or_append_left p _ 0 k (omega (arith, c.requires, long_a, long_b, long)))
    ∙ c.multiply.ensures k (omega (arith, c.requires, long_a, long_b, long))
    ∙ ap₂ (λ f d. conv f d k % 65536)
    (λ t i. widened w n c.args.a.now c.padded-a.result (omega arith) (omega (arith, long_a)) c.padded-a.ensures i t)
    (λ t i. widened w n c.args.b.now c.padded-b.result (omega arith) (omega (arith, long_b)) c.padded-b.ensures i t)
