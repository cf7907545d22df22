-- The fields of a header by arithmetic on the number in its two bytes (table 6).
-- Assumes nothing.
use Prim.Native.Nat.{ℕ, ◌+◌, ◌*◌, ◌/◌, ◌%◌, ◌^◌, ◌<◌}
use mathlib.Core.Path.{◌≡◌, sym, ap, ◌∙◌}
use mathlib.Core.List.{List, [], ◌∷◌, ◌++◌, append-nil}
use native.Mathlib.Omega.{arith}
use lib.ListN.{take, drop}
use lib.Seq.{take_at, drop_at, drop-drop}
use Rattle.bits.specs.Lists.{bits, num, unpack}
use Rattle.bits.proofs.Lists.{bits_length, num_bits, num_bits_mod}
use Rattle.bits.proofs.Numbers.{bits_append, bits_join}
use Rattle.ip.specs.Packet.{kind_in, error_in, length_in}
use Rattle.ip_head.specs.Header.{head_in}

module _ (a b : ℕ) (low : b < 256) where
  abbrev v : ℕ
  v = a * 256 + b

  joined : unpack (a ∷ b ∷ []) ≡ bits 16 v
  unfolding unpack
  joined = ap (λ (l : List ℕ). bits 8 a ++ l) (append-nil (bits 8 b)) ∙ sym (bits_join 8 8 a b low)

  from_error : drop 2 (unpack (a ∷ b ∷ [])) ≡ bits 14 v
  from_error = ap (drop 2) (joined ∙ bits_append 2 14 v) ∙ drop_at (bits 2 (v / 2 ^ 14)) (bits 14 v) 2 (bits_length 2 (v / 2 ^ 14))

  from_length : drop 3 (unpack (a ∷ b ∷ [])) ≡ bits 13 v
  from_length =
      sym (drop-drop 1 2 (unpack (a ∷ b ∷ []))) ∙ ap (drop 1) (from_error ∙ bits_append 1 13 v)
      ∙ drop_at (bits 1 (v / 2 ^ 13)) (bits 13 v) 1 (bits_length 1 (v / 2 ^ 13))

  pub kind_is : a < 256 → kind_in a b ≡ (a * 256 + b) / 0x4000
  unfolding kind_in
  kind_is h =
      ap (λ (l : List ℕ). num (take 2 l)) (joined ∙ bits_append 2 14 v)
      ∙ ap num (take_at (bits 2 (v / 2 ^ 14)) (bits 14 v) 2 (bits_length 2 (v / 2 ^ 14))) ∙ num_bits 2 (v / 2 ^ 14) (omega arith)

  pub error_is : error_in a b ≡ (a * 256 + b) / 0x2000 % 2
  unfolding error_in
  error_is =
      ap (λ (l : List ℕ). num (take 1 l)) (from_error ∙ bits_append 1 13 v)
      ∙ ap num (take_at (bits 1 (v / 2 ^ 13)) (bits 13 v) 1 (bits_length 1 (v / 2 ^ 13))) ∙ num_bits_mod 1 (v / 2 ^ 13)

  pub length_is : length_in a b ≡ (a * 256 + b) / 2 % 4096
  unfolding length_in
  length_is =
      ap (λ (l : List ℕ). num (take 12 l)) (from_length ∙ bits_append 12 1 v)
      ∙ ap num (take_at (bits 12 (v / 2 ^ 1)) (bits 1 v) 12 (bits_length 12 (v / 2 ^ 1))) ∙ num_bits_mod 12 (v / 2 ^ 1)

-- what is read by arithmetic is what the header shows
pub head_is : (a b n : ℕ) → a < 256 → b < 256 → n ≡ a * 256 + b → record { kind = n / 0x4000; error = n / 0x2000 % 2; length = n / 2 % 4096 } ≡ head_in a b
unfolding head_in
head_is a b n ha hb e =
    let t : n / 0x4000 ≡ kind_in a b = ap (λ (i : ℕ). i / 0x4000) e ∙ sym (kind_is a b hb ha) in
    let f : n / 0x2000 % 2 ≡ error_in a b = ap (λ (i : ℕ). i / 0x2000 % 2) e ∙ sym (error_is a b hb) in
    let k : n / 2 % 4096 ≡ length_in a b = ap (λ (i : ℕ). i / 2 % 4096) e ∙ sym (length_is a b hb) in
    cc (t, f, k)
