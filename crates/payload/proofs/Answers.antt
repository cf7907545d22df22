-- Laws of the answers: what is told of a word, and what that says; what is told determines the answer.
-- Assumes nothing.
use Prim.Native.Nat.{ℕ}
use mathlib.Core.Path.{◌≡◌, sym, ap, ap₂, ◌∙◌}
use mathlib.Core.List.{List, []}
use native.Mathlib.Omega.{arith}
use borrow.Author.Tests.{eq-eqb, ne_eqb}
use lib.Dec.{eqb}
use lib.ListN.{length, take}
use Rattle.ground.specs.Outcome.{Is, Told}
use Rattle.ground.specs.Choice.{choose}
use Rattle.ground.proofs.Choice.{choose_true, choose_false}
use Rattle.ground.proofs.Refusing.{refusal_leaves, acceptance_leaves}
use Rattle.infoword.specs.Suffix.{kind_of}
use Rattle.infoword.specs.Word.{packet_bytes}
use Rattle.fields.specs.Report.{read_refusal, header_of}
use Rattle.payload.specs.Answers.{values_of, told, reading, shown, read_into}
use Rattle.fields.specs.declared.Header.{Header}
use Rattle.header_bytes.specs.Bytes.{header_bytes}
use Rattle.std.specs.Prelude.{Result, Ok, Err}
use Rattle.ground.specs.declared.refusal.Refusal.{Refusal}
use Rattle.ground.specs.Refusals.{number}
use Rattle.ground.proofs.Refusals.{number_not_0, number_same}

-- the number 0 and any other number choose
chooses : {A : Type 0} (n : ℕ) (x y : A) → n ≡ 0 → choose (eqb n 0) x y ≡ x
chooses n x y e = choose_true x y (eq-eqb n 0 e)

-- the values determine the header, and there are some
values_inj : (h h' : Header) → values_of h ≡ values_of h' → h ≡ h'
values_inj h h' e =
    let a : h.rfu ≡ h'.rfu = cc in
    let b : h.id ≡ h'.id = cc in
    let c : h.kind ≡ h'.kind = cc in
    let d : h.version ≡ h'.version = cc in
    let f : h.parity ≡ h'.parity = cc in
    let g : h.address ≡ h'.address = cc in
    let all : ◌≡◌ {A = Header}
    (record { rfu = h.rfu; id = h.id; kind = h.kind; version = h.version; parity = h.parity; address = h.address })
    (record { rfu = h'.rfu; id = h'.id; kind = h'.kind; version = h'.version; parity = h'.parity; address = h'.address }) =
    cc (a, b, c, d, f, g) in
    all

values_some : (h : Header) → values_of h ≡ [] → ⊥
values_some h e = let z : ◌≡◌ {A = ℕ} 0 1 = cc in omega arith

module _ (w : List ℕ) where
  pub tells_refusal : (e : Refusal) → number e ≡ read_refusal w → told (Err e) ≡ reading w
  unfolding reading
  tells_refusal e p =
      ap₂ (λ (x : ℕ) (l : List ℕ). record { number = x; values = l }) p
      (sym (choose_false (values_of (header_of w)) [] (ne_eqb (read_refusal w) 0 (λ z. number_not_0 e (p ∙ z)))))

  pub tells_header : (h : Header) → 0 ≡ read_refusal w → h ≡ header_of w → told (Ok h) ≡ reading w
  unfolding reading
  tells_header h e p =
      ap₂ (λ (x : ℕ) (l : List ℕ). record { number = x; values = l }) e (ap values_of p ∙ sym (chooses (read_refusal w) (values_of (header_of w)) [] (sym e)))

  -- a refusal that is told is the word's
  pub refusal_told : (e : Refusal) → told (Err e) ≡ reading w → number e ≡ read_refusal w
  unfolding reading
  refusal_told e p = ap (λ (t : Told). t.number) p

  -- a header that is told is that of a word that is accepted
  pub header_told : (h : Header) → told (Ok h) ≡ reading w → (0 ≡ read_refusal w) × (h ≡ header_of w)
  unfolding reading
  header_told h e =
      let a : 0 ≡ read_refusal w = ap (λ (t : Told). t.number) e in
      (a, values_inj h (header_of w) (ap (λ (t : Told). t.values) e ∙ chooses (read_refusal w) (values_of (header_of w)) [] (sym a)))

  -- the payload that is shown
  pub shows : (n : ℕ) → 0 ≡ read_refusal w → n ≡ packet_bytes (kind_of w) → take n w ≡ shown w
  unfolding shown
  shows n e k = ap (λ (m : ℕ). take m w) k ∙ sym (chooses (read_refusal w) (take (packet_bytes (kind_of w)) w) [] (sym e))

  pub shows_nothing : (e : Refusal) → number e ≡ read_refusal w → [] ≡ shown w
  unfolding shown
  shows_nothing e p = sym (choose_false (take (packet_bytes (kind_of w)) w) [] (ne_eqb (read_refusal w) 0 (λ z. number_not_0 e (p ∙ z))))

-- the header in 16 bytes
module _ (w out : List ℕ) where
  pub into_room : (length out ≡ 16 → ⊥) → Is (read_into w out) 1 out
  unfolding read_into
  into_room h = refusal_leaves _ _ out (simp (ne_eqb (length out) 16 h)) (λ z. omega (arith, z))

  pub into_refused : length out ≡ 16 → (e : Refusal) → number e ≡ read_refusal w → Is (read_into w out) (number e) out
  unfolding read_into read_refusal
  into_refused l e p = refusal_leaves _ _ out (simp (eq-eqb (length out) 16 l) p) (number_not_0 e)

  pub into_done : length out ≡ 16 → 0 ≡ read_refusal w → (m : List ℕ) → m ≡ header_bytes (header_of w) → Is (read_into w out) 0 m
  unfolding read_into read_refusal
  into_done l e m h = acceptance_leaves _ _ out (sym (simp (eq-eqb (length out) 16 l) e)) h

-- what is told determines the answer
pub told_inj : (r r' : Result Header Refusal) → told r ≡ told r' → r ≡ r'
told_inj (Ok h) (Ok h') e = ap Ok (values_inj h h' (ap (λ (t : Told). t.values) e))
told_inj (Ok h) (Err f) e = absurd (values_some h (ap (λ (t : Told). t.values) e))
told_inj (Err f) (Ok h) e = absurd (values_some h (sym (ap (λ (t : Told). t.values) e)))
told_inj (Err f) (Err f') e = ap Err (number_same (ap (λ (t : Told). t.number) e))
