-- Where a word that is too large stands. Assumes nothing.
use Rattle.std.proofs.Common.{◌≡◌, ℕ, ◌*◌, ◌/◌, ◌%◌, ◌<◌, ◌≤◌, List, length, get_or, refl, inr, arith}
use Rattle.std.proofs.lemmas.Nat.{div-add-mod', div_below, mod_below}
use Rattle.kinds.specs.Words.{Coding, Unread}
use Rattle.kinds.specs.declared.refusals.Refusal.TheVariants.{CoefficientTooLarge}

-- the element and the exponent of a place in the list
pub unread_at : {M : Type 0} (C : Coding M) (m : ℕ) (ws : List ℕ) (place element exponent : ℕ)
    → element ≡ place / C.width → exponent ≡ place % C.width
    → length ws ≡ m * C.width → place < length ws → C.limit ≤ get_or ws place 0 → Unread C m ws (CoefficientTooLarge element exponent)
unread_at C m ws place element exponent row column counted within above =
    let inside : place < m * C.width = omega (arith, counted, within) in
    let some : 0 < C.width = grind (arith, inside) in
    inr (
      element,
      exponent,
      refl,
      record {
        counted = counted;
        element_within = rw row (div_below place C.width m some inside);
        exponent_within = rw column (mod_below place C.width some);
        above = rw (row, column, div-add-mod' place C.width) above;
      },
    )
