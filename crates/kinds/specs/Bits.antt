-- Kind W: plus and minus are exclusive or, times is and; two words, low half first. Assumes nothing.
use Rattle.std.specs.Prelude.{ℕ, ◌+◌, ◌*◌, ◌/◌, ◌%◌, ◌^◌, List, [], ◌∷◌, bit_and, bit_xor, slice_index}
use Rattle.std.proofs.Common.{arith}
use Rattle.kinds.specs.Ring.{Ops}
use Rattle.kinds.specs.Words.{Coding}
use Rattle.kinds.specs.declared.bitwise.W.{W}

-- the element with the low 32 bits of a number
abbrev pub of_bits : ℕ → W
of_bits b = record { bits = b % 2 ^ 32; fits = omega arith }

abbrev pub xor : W → W → W
xor x y = of_bits (bit_xor x.bits y.bits)

abbrev pub and : W → W → W
and x y = of_bits (bit_and x.bits y.bits)

abbrev pub ops : Ops W
ops = record { zero = of_bits 0; one = of_bits 4294967295; plus = xor; minus = xor; times = and }

abbrev pub halves : W → List ℕ
halves x = (x.bits % 65536) ∷ (x.bits / 65536) ∷ []

abbrev pub coding : Coding W
coding = record { width = 2; limit = 65536; words = halves; element = λ ws. of_bits (slice_index ws 0 + 65536 * slice_index ws 1) }
