-- Theorems about the function's own promise: which parts hold is which parts are sound; an odd number of wrong bits is seen.
-- Assumes nothing.
use Prim.Native.Nat.{ℕ, ◌+◌, ◌*◌, ◌/◌, ◌%◌, ◌^◌, ◌<◌}
use mathlib.Core.Path.{◌≡◌, sym, ap, ◌∙◌}
use mathlib.Core.Logic.{◌↔◌}
use mathlib.Core.List.{List}
use contract.Lifetimes.{Lfts}
use borrow.Fn.World.{ArgsD, ResD}
use borrow.Fn.Kinds.{ended_of}
use denote.Triple.Clauses.{AtExit}
use Rattle.bits.specs.Places.{bit_at, number}
use Rattle.parity.specs.Part.{part_of, received, held_of}
use Rattle.parity.specs.Claims.{distance, Sound}
use Rattle.parity.proofs.Sound.{meaning, odd_seen}
use Rattle.parity.proofs.Received.{received_bits}
use Rattle.parity.proofs.Which.{held_set, held_true, held_false, held_all}
use Rattle.parts_held.specs.contracts.held as held
use Rattle.parts_held.proofs.held.Kinds as held_kinds
use Rattle.parts_held.proofs.held.Reads as held_reads

-- after a call held(word)
module _ (κs : Lfts 1) (a : ArgsD held.signature κs) (r : ResD held.signature κs) (s : AtExit (ended_of 1 held_kinds.ps held_kinds.r) κs)
    (did : held_reads.Post κs a r s) where
  -- the bit k is set exactly where the part k is sound
  pub held_sound : (k : ℕ) → k < 4 → (r / 2 ^ k % 2 ≡ 1) ↔ Sound (received a.0.now k)
  held_sound k h =
      let w : List ℕ = a.0.now in
      let m = meaning (received w k) (received_bits w k) in
      let e : r / 2 ^ k % 2 ≡ held_of w / 2 ^ k % 2 = ap (λ (x : ℕ). x / 2 ^ k % 2) did in
      (λ t. m.0 (held_set w k h (sym e ∙ t)), λ t. e ∙ held_true w k h (m.1 t))

  -- with the parity part of each part in its place all four hold
  pub held_whole : ((k : ℕ) → k < 4 → number (bit_at a.0.now) (12032 + 49 * k) 49 ≡ part_of a.0.now (376 * k)) → r ≡ 15
  held_whole h = did ∙ held_all a.0.now h

  -- and of a part that holds any odd number of wrong bits is seen
  pub held_odd : (κt : Lfts 1) (b : ArgsD held.signature κt) (q : ResD held.signature κt) (t : AtExit (ended_of 1 held_kinds.ps held_kinds.r) κt)
      → held_reads.Post κt b q t → (k : ℕ) → k < 4 → r / 2 ^ k % 2 ≡ 1
      → distance (received a.0.now k) (received b.0.now k) % 2 ≡ 1 → q / 2 ^ k % 2 ≡ 0
  held_odd κt b q t p k h e o =
      let w : List ℕ = a.0.now in
      let v : List ℕ = b.0.now in
      ap (λ (x : ℕ). x / 2 ^ k % 2) p
      ∙ held_false v k h
      (odd_seen (received w k) (received v k) (received_bits w k) (received_bits v k) (held_set w k h (sym (ap (λ (x : ℕ). x / 2 ^ k % 2) did) ∙ e)) o)
