-- The operations of a commutative ring, as every kind of element has them, their laws, and the sum of a list. Assumes nothing.
use Rattle.std.specs.Prelude.{◌≡◌, List}
use Rattle.std.specs.List.{fold}

pub record Ops (M : Type 0) : Type 0 where
  pub zero : M
  pub one : M
  pub plus : M → M → M
  pub minus : M → M → M
  pub times : M → M → M

pub record Laws {M : Type 0} (R : Ops M) : Type 0 where
  pub plus_assoc : (x y z : M) → R.plus (R.plus x y) z ≡ R.plus x (R.plus y z)
  pub plus_comm : (x y : M) → R.plus x y ≡ R.plus y x
  pub plus_zero : (x : M) → R.plus x R.zero ≡ x
  pub plus_minus : (x y : M) → R.minus (R.plus x y) y ≡ x
  pub minus_plus : (x y : M) → R.plus (R.minus x y) y ≡ x
  pub times_assoc : (x y z : M) → R.times (R.times x y) z ≡ R.times x (R.times y z)
  pub times_comm : (x y : M) → R.times x y ≡ R.times y x
  pub times_one : (x : M) → R.times x R.one ≡ x
  pub times_plus : (x y z : M) → R.times x (R.plus y z) ≡ R.plus (R.times x y) (R.times x z)

-- the sum of a list, added to s from the left
abbrev pub total : {M : Type 0} → Ops M → M → List M → M
total R s xs = fold R.plus s xs
