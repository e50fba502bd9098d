-- That kind W keeps its laws. Assumes nothing.
use Rattle.std.specs.Prelude.{◌≡◌, ℕ, zero, suc, ◌+◌, ◌*◌, ◌%◌, ◌^◌, ◌<◌, List, [], ◌∷◌, bit_and, bit_xor, min, slice_index, refl}
use Rattle.std.proofs.Common.{sym, ap, ap₂, ◌∙◌, mod-eq_of_lt, arith}
use mathlib.Core.HLevel.{is_prop→PathP}
use Rattle.std.proofs.Math.Bridge.{le_prop}
use Rattle.std.proofs.lemmas.Nat.{and_assoc, and_comm, and_mask, xor_comm, xor_lt}
use Rattle.std.proofs.lemmas.Nat.Bits.{bit_at_and, bit_at_xor, bit_at-lt, same_from_bits}
use Rattle.std.specs.Int.Bits.{and_lt, xor_assoc, xor_zero_r, xor_self}
use Rattle.std.specs.Int.{bit_at}
use Rattle.kinds.specs.Bits.{of_bits, xor, and, ops, halves, coding}
use Rattle.kinds.specs.Ring.{Laws}
use Rattle.kinds.specs.Words.{Codes, Readable}
use Rattle.kinds.specs.declared.bitwise.W.{W}

-- elements with the same bits are the same
pub same_bits : (x y : W) → x.bits ≡ y.bits → x ≡ y
same_bits x y e = λ i. record { bits = e i; fits = is_prop→PathP (λ j. e j < 2 ^ 32) (λ j. le_prop) x.fits y.fits i }

-- an element is that of its bits
pub of_bits_is : (x : W) (b : ℕ) → b < 2 ^ 32 → x.bits ≡ b → x ≡ of_bits b
of_bits_is x b small e = same_bits x (of_bits b) (omega arith)

xor_bits : (x y : W) → (xor x y).bits ≡ bit_xor x.bits y.bits
xor_bits x y = mod-eq_of_lt (xor_lt 32 x.bits y.bits x.fits y.fits)

and_bits : (x y : W) → (and x y).bits ≡ bit_and x.bits y.bits
and_bits x y = mod-eq_of_lt (and_lt 32 x.bits y.bits x.fits y.fits)

-- and goes over exclusive or, since it does for one bit
and_xor : (a b c : ℕ) → bit_and a (bit_xor b c) ≡ bit_xor (bit_and a b) (bit_and a c)
and_xor a b c =
    same_from_bits _ _ (λ i.
    simp (bit_at_and, bit_at_xor) (one_bit (bit_at a i) (bit_at b i) (bit_at c i) (bit_at-lt a i) (bit_at-lt b i) (bit_at-lt c i)))
  where
    one_bit : (x y z : ℕ) → x < 2 → y < 2 → z < 2 → min x ((y + z) % 2) ≡ (min x y + min x z) % 2
    one_bit x y z p q r = omega arith

xor_twice : (x y : W) → xor (xor x y) y ≡ x
xor_twice x y =
    same_bits _ _ (xor_bits (xor x y) y ∙ ap (λ b. bit_xor b y.bits) (xor_bits x y)
    ∙ xor_assoc x.bits y.bits y.bits ∙ ap (bit_xor x.bits) (xor_self y.bits) ∙ xor_zero_r x.bits)

xor_grouped : (x y z : W) → xor (xor x y) z ≡ xor x (xor y z)
xor_grouped x y z =
    same_bits _ _ (xor_bits (xor x y) z ∙ ap (λ b. bit_xor b z.bits) (xor_bits x y)
    ∙ xor_assoc x.bits y.bits z.bits
    ∙ sym (xor_bits x (xor y z) ∙ ap (bit_xor x.bits) (xor_bits y z)))

and_grouped : (x y z : W) → and (and x y) z ≡ and x (and y z)
and_grouped x y z =
    same_bits _ _ (and_bits (and x y) z ∙ ap (λ b. bit_and b z.bits) (and_bits x y)
    ∙ and_assoc z.bits x.bits y.bits
    ∙ sym (and_bits x (and y z) ∙ ap (bit_and x.bits) (and_bits y z)))

and_over_xor : (x y z : W) → and x (xor y z) ≡ xor (and x y) (and x z)
and_over_xor x y z =
    same_bits _ _ (and_bits x (xor y z) ∙ ap (bit_and x.bits) (xor_bits y z)
    ∙ and_xor x.bits y.bits z.bits
    ∙ sym (xor_bits (and x y) (and x z) ∙ ap₂ bit_xor (and_bits x y) (and_bits x z)))

pub laws : Laws ops
laws = record {
  plus_assoc = xor_grouped;
  plus_comm = λ x y. ap of_bits (xor_comm x.bits y.bits);
  plus_zero = λ x. same_bits _ _ (xor_bits x (of_bits 0) ∙ xor_zero_r x.bits);
  plus_minus = xor_twice;
  minus_plus = xor_twice;
  times_assoc = and_grouped;
  times_comm = λ x y. ap of_bits (and_comm x.bits y.bits);
  times_one = λ x. same_bits _ _ (and_bits x (of_bits 4294967295) ∙ and_mask x.bits 32 ∙ mod-eq_of_lt x.fits);
  times_plus = and_over_xor;
}

halves_small : (x : W) (i : ℕ) → i < 2 → slice_index (halves x) i < 65536
halves_small x zero h = omega arith
halves_small x (suc zero) h = let f = x.fits in omega arith
halves_small x (suc (suc i)) h = absurd (omega arith)

-- two halves are put together and taken apart again
halves_element : (ws : List ℕ) → Readable coding 1 ws → halves (coding.element ws) ≡ ws
halves_element [] h = absurd (omega (arith, h.counted))
halves_element (a ∷ []) h = absurd (omega (arith, h.counted))
halves_element (a ∷ b ∷ []) h =
    let low : a < 65536 = h.small 0 (omega arith) in
    let high : b < 65536 = h.small 1 (omega arith) in
    let whole : (a + 65536 * b) % 2 ^ 32 ≡ a + 65536 * b = mod-eq_of_lt (omega arith) in
    ap₂ (λ x y. x ∷ y ∷ []) (omega arith) (omega arith)
halves_element (a ∷ b ∷ c ∷ ws) h = absurd (omega (arith, h.counted))

pub codes : Codes coding
codes = record {
  readable = λ x. record { counted = refl; small = halves_small x };
  element_words = λ x. let f = x.fits in sym (of_bits_is x _ (omega arith) (omega arith));
  words_element = halves_element;
}
