-- The coefficients are what the calls gave, modulo M.
use Rattle.std.proofs.Common.{rules, arith, sym, ap, subst, refl, ⊎_elim, get_or, mod-lt, ◌≡◌, ◌∙◌, ℕ, ◌%◌, ◌<◌}
use Rattle.std.proofs.lemmas.Bool.{cases_lt}
use Rattle.std.proofs.lemmas.List.{get_or_past}
use Rattle.std.proofs.lemmas.Fn.{serves_by}
use Rattle.poly.specs.Modulus.{modulus}
use Rattle.poly.specs.Quotient.{same_poly}
use Rattle.poly.proofs.Made.{call_at}
use Rattle.poly.proofs.elements.Poly.from_fn.Goals as goal

pub from_fn-requires : goal.from_fn-requires
from_fn-requires g c = (
  search rules,
  serves_by _ (λ xs q. q.0.now ≡ c.args.f) (λ xs q x v j r. search rules) _ _ _ _ refl
      (λ xs t q x u y s j. subst (λ f. goal.F-pre g f x) (sym j) (c.requires x (omega (arith, s)))),
)

pub invariant_of-result : goal.invariant_of-result
invariant_of-result g c = record {
  long = c.from_fn.ensures.items.long;
  small = λ i.
      ⊎_elim
      (λ h. let call = c.from_fn.ensures.items.at i 0 h in
      let made : (v : ℕ) × goal.F-post g call.0.0.now i v × (get_or c.from_fn.result i 0 ≡ v % modulus g.row.M) = search rules in
      subst (λ v. v < modulus g.row.M) (sym made.2) (mod-lt made.0 (omega arith)))
      (λ h. subst (λ v. v < modulus g.row.M) (sym (get_or_past c.from_fn.result i 0 (omega (arith, c.from_fn.ensures.items.long)))) (omega arith))
      (cases_lt i g.row.N);
}

pub returns : goal.returns
returns g c d gives = same_poly g.row.N g.row.M _ d (λ i h.
    let call = call_at _ (λ q. q.0.now ≡ c.args.f) (λ p q j y r e. search rules) _ c.from_fn.result 0 g.row.N i 0 refl c.from_fn.ensures.items.each (omega arith) (omega (arith, h)) in
    let made : (v : ℕ) × goal.F-post g call.0.0.now i v × (get_or c.from_fn.result i 0 ≡ v % modulus g.row.M) = search rules in
    made.2 ∙ ap (λ v. v % modulus g.row.M) (gives i made.0 h (subst (λ f. goal.F-post g f i made.0) call.2 made.1)))
