-- Laws of the walk over a queue for what is wrong in it: what is asked of the whole is asked of what is left.
-- Assumes nothing.
use Prim.Native.Nat.{ℕ, ◌+◌, ◌-◌, ◌≤◌, ◌<◌}
use mathlib.Core.Path.{◌≡◌, sym, ap, ◌∙◌}
use mathlib.Core.Bool.{Bool, true, false}
use mathlib.Core.List.{List}
use native.Mathlib.Omega.{arith}
use lib.ListN.{length, get_or, take, drop, length-drop}
use lib.Seq.{drop-drop}
use Rattle.std.proofs.lemmas.List.{take_rest}
use Rattle.ip.specs.Memory.{Queue, unfit, queue_in}
use Rattle.ip_queue.specs.Places.{length_at}
use Rattle.ip_queue.proofs.Places.{place_end, place_short, place_unfit, place_cut, place_packet}

module _ (q : List ℕ) (w : ℕ) (left : w ≡ (queue_in 0 q).number) where
  pub fault_none : length q ≤ 0 → w ≡ 0
  fault_none h = left ∙ ap (λ (c : Queue). c.number) (place_end q 0 h)

  pub fault_short : 0 < length q → length q < 4 → w ≡ 1
  fault_short h k = left ∙ ap (λ (c : Queue). c.number) (place_short q 0 h k)

  -- n is the length of the packet there, b whether it is one that is not sent
  module _ (four : 4 ≤ length q) (n : ℕ) (long : n ≡ length_at q 0) (b : Bool) (test : b ≡ unfit (get_or q 0 0) n) where
    -- what stands behind its four bytes
    abbrev behind : List ℕ
    behind = take (length q - 4) (drop 4 q)

    behind_is : behind ≡ drop 4 q
    behind_is = take_rest q 4

    tested : unfit (get_or q 0 0) (length_at q 0) ≡ b
    tested = sym (test ∙ ap (unfit (get_or q 0 0)) long)

    pub fault_unfit : b ≡ true → w ≡ 19
    fault_unfit e = left ∙ ap (λ (c : Queue). c.number) (place_unfit q 0 four (tested ∙ e))

    pub fault_cut : b ≡ false → length behind < n → w ≡ 1
    fault_cut e h =
        left ∙ ap (λ (c : Queue). c.number) (place_cut q 0 four (tested ∙ e) (omega (arith, ap length behind_is, length-drop 4 q)))

    pub fault_more : b ≡ false → n ≤ length behind → w ≡ (queue_in 0 (take (length behind - n) (drop n behind))).number
    fault_more e h =
        let r : take (length behind - n) (drop n behind) ≡ drop (0 + 4 + length_at q 0) q =
        take_rest behind n ∙ ap (drop n) behind_is ∙ drop-drop n 4 q ∙ ap (λ (i : ℕ). drop i q) (omega arith) in
        left ∙ ap (λ (c : Queue). c.number) (place_packet q 0 four (tested ∙ e) (omega (arith, ap length behind_is, length-drop 4 q)))
        ∙ ap (λ (l : List ℕ). (queue_in 0 l).number) (sym r)
