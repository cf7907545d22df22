-- Laws of parts: bytes cut into parts of a size and joined again. A unit is a part of 64 bytes, a codeword one of its own length.
-- Assumes nothing.
use Prim.Native.Nat.{ℕ, ◌+◌, ◌*◌, ◌/◌, ◌%◌, ◌<◌}
use mathlib.Core.Path.{◌≡◌, refl, sym, ap, ap₂, ◌∙◌, subst}
use mathlib.Core.Bool.{Bool, true, false}
use mathlib.Core.List.{List}
use native.Mathlib.Nat.{zero-add, div-add-mod'}
use lib.ListN.{length, get_or, replicate, length-replicate, get_or-replicate}
use lib.Seq.{ext_get_or}
use Rattle.ground.specs.Choice.{choose}
use Rattle.ground.proofs.Table.{length_tab, get_or_tab, tab_cong}
use Rattle.slots.specs.Slots.{part, joined}
use Rattle.slots.proofs.Places.{row_of, col_of, in_table, row_in, col_in}

module _ (z : ℕ) where
  pub part_length : (l : List ℕ) (j : ℕ) → length (part z l j) ≡ z
  unfolding part
  part_length l j = length_tab (λ b. get_or l (j * z + b) 0) 0 z

  pub part_byte : (l : List ℕ) (j b : ℕ) → b < z → get_or (part z l j) b 0 ≡ get_or l (j * z + b) 0
  unfolding part
  part_byte l j b h = get_or_tab (λ b. get_or l (j * z + b) 0) 0 0 z b h ∙ ap (λ (x : ℕ). get_or l (j * z + x) 0) (zero-add b)

  pub joined_length : (u : ℕ → List ℕ) (n : ℕ) → length (joined z u n) ≡ n * z
  unfolding joined
  joined_length u n = length_tab (λ q. get_or (u (q / z)) (q % z) 0) 0 (n * z)

  pub joined_byte : (u : ℕ → List ℕ) (n q : ℕ) → q < n * z → get_or (joined z u n) q 0 ≡ get_or (u (q / z)) (q % z) 0
  unfolding joined
  joined_byte u n q h = get_or_tab (λ q. get_or (u (q / z)) (q % z) 0) 0 0 (n * z) q h ∙ ap (λ (x : ℕ). get_or (u (x / z)) (x % z) 0) (zero-add q)

  -- a part of what was joined
  pub part_joined : (u : ℕ → List ℕ) (n j : ℕ) → j < n → length (u j) ≡ z → part z (joined z u n) j ≡ u j
  part_joined u n j h e =
      ext_get_or 0 (part z (joined z u n) j) (u j) (part_length (joined z u n) j ∙ sym e)
      (λ b p.
      let l : b < z = subst (λ (x : ℕ). b < x) (part_length (joined z u n) j) p in
      part_byte (joined z u n) j b l
      ∙ joined_byte u n (j * z + b) (in_table j b n z h l)
      ∙ ap₂ (λ (x y : ℕ). get_or (u x) y 0) (row_of j b z l) (col_of j b z l))

  -- parts that are the same one by one
  pub joined_cong : (u v : ℕ → List ℕ) (n : ℕ) → ((j : ℕ) → j < n → u j ≡ v j) → joined z u n ≡ joined z v n
  unfolding joined
  joined_cong u v n h =
      tab_cong (λ q. get_or (u (q / z)) (q % z) 0) (λ q. get_or (v (q / z)) (q % z) 0) 0 (n * z)
      (λ k p. ap (λ (x : List ℕ). get_or x ((0 + k) % z) 0) (h ((0 + k) / z) (row_in (0 + k) n z (subst (λ (x : ℕ). x < n * z) (sym (zero-add k)) p))))

  -- the parts of bytes, joined
  pub joined_parts : (l : List ℕ) (n : ℕ) → length l ≡ n * z → joined z (part z l) n ≡ l
  joined_parts l n e =
      ext_get_or 0 (joined z (part z l) n) l (joined_length (part z l) n ∙ sym e)
      (λ q p.
      let h : q < n * z = subst (λ (x : ℕ). q < x) (joined_length (part z l) n) p in
      joined_byte (part z l) n q h ∙ part_byte l (q / z) (q % z) (col_in q n z h) ∙ ap (λ (x : ℕ). get_or l x 0) (div-add-mod' q z))

  pub joined_zeros : (n : ℕ) → joined z (λ j. replicate z 0) n ≡ replicate (n * z) 0
  joined_zeros n =
      ext_get_or 0 (joined z (λ j. replicate z 0) n) (replicate (n * z) 0) (joined_length (λ j. replicate z 0) n ∙ sym (length-replicate {A = ℕ} (n * z) 0))
      (λ q p.
      let h : q < n * z = subst (λ (x : ℕ). q < x) (joined_length (λ j. replicate z 0) n) p in
      joined_byte (λ j. replicate z 0) n q h ∙ get_or-replicate z (q % z) 0 0 (col_in q n z h) ∙ sym (get_or-replicate (n * z) q 0 0 h))

  -- a choice between two ways to fill a frame
  pub joined_choice : (t : Bool) (u v : ℕ → List ℕ) (n : ℕ) → joined z (λ j. choose t (u j) (v j)) n ≡ choose t (joined z u n) (joined z v n)
  joined_choice true u v n = refl
  joined_choice false u v n = refl
