-- A call: its refusals by the numbers that it finds, and one frame through the ring.
-- Assumes nothing.
use Prim.Native.Nat.{ℕ, suc, ◌+◌, ◌*◌, ◌/◌, ◌%◌, ◌≤◌, ◌<◌}
use mathlib.Core.Path.{◌≡◌, refl, sym, ap, ap₂, ◌∙◌, subst}
use mathlib.Core.Bool.{Bool, true, false, not}
use mathlib.Core.List.{List}
use native.Mathlib.Nat.{mod-lt, suc-mul, mul-le-mul, mul-le-mul_right, mul_assoc, div-add-mod', div-le_self}
use native.Mathlib.Decide.{dec_lt}
use native.Mathlib.Omega.{arith}
use borrow.Author.Rules.{rules}
use borrow.Author.Tests.{eqb-true, ltb-false}
use lib.Dec.{T, eqb, ltb, leb, leb→le}
use lib.ListN.{length}
use lib.Seq.{paste, length-paste}
use Rattle.ground.specs.Outcome.{Is}
use Rattle.ground.specs.Choice.{choose, first_of}
use Rattle.ground.specs.Table.{tab, all_below}
use Rattle.ground.proofs.Choice.{choose_true, choose_false, past, no_difference}
use Rattle.ground.proofs.Table.{at_all}
use Rattle.ground.proofs.Refusing.{refusal_leaves, acceptance_leaves}
use Rattle.bits.specs.Places.{field_at}
use Rattle.patterns.specs.Rates.{rates, rate_of, units_of}
use Rattle.patterns.proofs.Rates.{units_some, units_none}
use Rattle.description.proofs.Rows.{row_at_lem}
use Rattle.description.specs.Fields.{table16, pipe_width, regrouping_flag}
use Rattle.views.specs.Rows.{row_from, row_at}
use Rattle.records.specs.declared.Pipe.{Pipe}
use Rattle.records.specs.Records.{pipe_of, pipe_at}
use Rattle.slots.specs.declared.Profile.{Profile}
use Rattle.slots.specs.declared.Way.{Way}
use Rattle.slots.specs.Slots.{frame_bytes}
use Rattle.slots.specs.Ring.{depth, taken, byte_from, dispersing, step}
use Rattle.disperser.proofs.Dispersing.{read_out}
use Rattle.mixer.specs.Mixing.{codeword_bytes}
use Rattle.pipe_look.specs.Faults.{frame_faults}
use Rattle.profile.specs.Profile.{profile_of}
use Rattle.profile.specs.Lent.{Profiled, lent_fields, lent_sections, profile_fault, no_profile, profiled}
use Rattle.profile.proofs.Giving.{record_row, lent_at_most}
use Rattle.pipe.specs.Frame.{way_of, mixed_frame}
use Rattle.pipe.specs.Piping.{lent_way, lent_pattern, pipe_faults, piping}
use Rattle.pipe.specs.Inside.{Takes}
use Rattle.pipe.proofs.Chain.{frame_size, mixed_frame_length}

-- ---- the record as it is read

module _ (l : List ℕ) (q : Pipe) (e : q ≡ pipe_at l 0 0) where
  pub pattern_is : q.pattern ≡ lent_pattern l
  unfolding pipe_at pipe_of lent_fields
  pattern_is = ap (λ (x : Pipe). x.pattern) e

  pub width_is : q.width ≡ pipe_width (lent_fields l)
  unfolding pipe_at pipe_of lent_fields
  width_is = ap (λ (x : Pipe). x.width) e

pub width_small : (l : List ℕ) → pipe_width (lent_fields l) < 1024
width_small l = row_at_lem table16 (lent_fields l) 1 (record_row l) (omega arith)

-- a codeword has at most 30 capacity units
pub few_units : (p : ℕ) → units_of p ≤ 30
unfolding units_of rate_of rates
few_units p =
    elim (dec_lt p 28) [
      | yes h ↦ leb→le (units_of p) 30 (at_all (λ q. leb (units_of q) 30) 28 all_few p h)
      | no h ↦ (let e : units_of p ≡ 0 = units_none p (omega arith) in omega arith)
    ]
  where
    all_few : T (all_below (λ q. leb (units_of q) 30) 28)
    all_few = tt

pub regrouping_is : (l : List ℕ) → field_at l 25 1 ≡ regrouping_flag (lent_fields l)
unfolding lent_fields row_at row_from
regrouping_is l = refl

-- ---- the frame's size by its width

turned : (x u : ℕ) → x * (4 * u) ≡ 4 * (x * u)
turned x u = let e : x * 4 ≡ 4 * x = omega arith in sym (mul_assoc x 4 u) ∙ ap (λ (z : ℕ). z * u) e ∙ mul_assoc 4 x u

module _ (l : List ℕ) (p : lent_pattern l ≤ 27) (whole : pipe_width (lent_fields l) % units_of (lent_pattern l) ≡ 0) where
  pub frame_is : frame_bytes (lent_way l) ≡ pipe_width (lent_fields l) * 256
  unfolding way_of
  frame_is =
      let w : ℕ = pipe_width (lent_fields l) in
      let u : ℕ = units_of (lent_pattern l) in
      let d : w / u * u + w % u ≡ w = div-add-mod' w u in
      let a : w / u * (4 * u) ≡ 4 * (w / u * u) = turned (w / u) u in
      omega (arith, whole)

-- ---- the refusals

-- what is told of a pipe that has a profile
abbrev pub given_profile : Profile → Profiled
given_profile p = record { refusal = 0; profile = p }

module _ (l codewords memory out : List ℕ) where
  abbrev given : ℕ → ℕ → ℕ
  given refusal greatest = first_of (frame_faults refusal greatest (lent_pattern l) (pipe_width (lent_fields l)) (length codewords) (length memory) (length out))

  abbrev greatest : ℕ
  greatest = (lent_way l).profile.greatest

  -- what is looked at last: three lengths, by the bytes of a frame
  abbrev lengths : ℕ → ℕ
  lengths x = choose (not (eqb (length codewords) x)) 21 (choose (not (eqb (length memory) ((greatest + 1) * x))) 21 (choose (not (eqb (length out) x)) 21 0))

  abbrev widths : Bool → ℕ → ℕ
  widths t x = choose (not t) 21 (lengths x)

  by_width : lent_pattern l ≤ 27 → (t : Bool) → eqb (pipe_width (lent_fields l) % units_of (lent_pattern l)) 0 ≡ t → widths t (pipe_width (lent_fields l) * 256) ≡ widths t (frame_bytes (lent_way l))
  by_width p false e = refl
  by_width p true e = ap lengths (sym (frame_is l p (eqb-true (pipe_width (lent_fields l) % units_of (lent_pattern l)) 0 e)))

  by_pattern : (t : Bool) → ltb 27 (lent_pattern l) ≡ t → profile_fault l ≡ false → given 0 greatest ≡ first_of (pipe_faults l codewords memory out)
  unfolding frame_faults pipe_faults
  by_pattern true e f = choose_true _ _ e ∙ sym (choose_false _ _ f ∙ choose_true _ _ e)
  by_pattern false e f =
      choose_false _ _ e
      ∙ by_width (ltb-false 27 (lent_pattern l) e) (eqb (pipe_width (lent_fields l) % units_of (lent_pattern l)) 0) refl
      ∙ sym (choose_false _ _ f ∙ choose_false _ _ e)

  -- the profile's refusal is the first that is looked for
  pub profile_refused : {n : ℕ} → record { refusal = n; profile = no_profile } ≡ profiled l → (n ≡ 0 → ⊥) → n ≡ first_of (pipe_faults l codewords memory out)
  unfolding profiled pipe_faults
  profile_refused e n = search rules

  -- and where there is none the others are those that are found by the numbers of the profile and the record
  module _ {p : Profile} {q : Pipe} (told : given_profile p ≡ profiled l) (read : q ≡ pipe_at l 0 0) where
    sound : profile_fault l ≡ false
    unfolding profiled
    sound = search rules

    pub profile_is : p ≡ (lent_way l).profile
    unfolding profiled way_of
    profile_is = ap (λ (x : Profiled). x.profile) (told ∙ choose_false _ _ sound)

    pub faults_are : first_of (frame_faults 0 p.greatest q.pattern q.width (length codewords) (length memory) (length out)) ≡ first_of (pipe_faults l codewords memory out)
    faults_are =
        ap₂ (λ (x y : ℕ). first_of (frame_faults 0 p.greatest x y (length codewords) (length memory) (length out))) (pattern_is l q read) (width_is l q read)
        ∙ ap (λ (x : Profile). given 0 x.greatest) profile_is ∙ by_pattern (ltb 27 (lent_pattern l)) refl sound

-- ---- what an accepted call says

pub record Fits (l codewords memory out : List ℕ) : Type 0 where
  pub profile : profile_fault l ≡ false
  pub pattern : lent_pattern l ≤ 27
  pub whole : pipe_width (lent_fields l) % units_of (lent_pattern l) ≡ 0
  pub frame : length codewords ≡ frame_bytes (lent_way l)
  pub ring : length memory ≡ depth (lent_way l) * frame_bytes (lent_way l)
  pub room : length out ≡ frame_bytes (lent_way l)

pub accepted : (l codewords memory out : List ℕ) → first_of (pipe_faults l codewords memory out) ≡ 0 → Fits l codewords memory out
unfolding pipe_faults
accepted l codewords memory out e =
    let x : 0 < 20 = omega arith in
    let y : 0 < 3 = omega arith in
    let z : 0 < 21 = omega arith in
    let a = past _ 20 _ x e in
    let b = past _ 3 _ y a.1 in
    let c = past _ 21 _ z b.1 in
    let d = past _ 21 _ z c.1 in
    let g = past _ 21 _ z d.1 in
    let h = past _ 21 _ z g.1 in
    record {
      profile = a.0;
      pattern = ltb-false 27 (lent_pattern l) b.0;
      whole = no_difference _ _ c.0;
      frame = no_difference _ _ d.0;
      ring = no_difference _ _ g.0;
      room = no_difference _ _ h.0;
    }

-- ---- one frame through the ring

abbrev way : Profile → ℕ → ℕ → ℕ → Way
way p r s u = record { profile = p; regrouping = r; slots = s; units = u }

module _ (l : List ℕ) (f : ℕ) (codewords memory out : List ℕ) (h : Fits l codewords memory out) where
  abbrev y : Way
  y = lent_way l

  abbrev frame : List ℕ
  frame = mixed_frame (lent_pattern l) (lent_way l).slots codewords

  known : lent_pattern l < 28
  known = omega (arith, h.pattern)

  size_is : frame_bytes (lent_way l) ≡ (lent_way l).slots * codeword_bytes (lent_pattern l)
  size_is = frame_size (lent_fields l) (lent_sections l) known

  -- 6,161 frames of 1,023 capacity units at most
  pub memory_most : length memory ≤ 1613491968
  unfolding way_of
  memory_most =
      let g : (profile_of (lent_fields l) (lent_sections l)).greatest ≤ 6160 = lent_at_most l h.profile in
      let a : depth (lent_way l) ≤ 6161 = omega arith in
      let b : frame_bytes (lent_way l) ≤ 261888 = omega (arith, frame_is l h.pattern h.whole, width_small l) in
      let m : depth (lent_way l) * frame_bytes (lent_way l) ≤ 6161 * 261888 = mul-le-mul a b in
      omega (arith, h.ring)

  row_less : f % depth (lent_way l) < depth (lent_way l)
  row_less = mod-lt f (omega arith)

  row_room : f % depth (lent_way l) * frame_bytes (lent_way l) + frame_bytes (lent_way l) ≤ length memory
  row_room =
      let x : suc (f % depth y) * frame_bytes y ≤ depth y * frame_bytes y = mul-le-mul_right (frame_bytes y) row_less in
      let e : suc (f % depth y) * frame_bytes y ≡ f % depth y * frame_bytes y + frame_bytes y = suc-mul (f % depth y) (frame_bytes y) in
      omega (arith, h.ring)

  -- as the code has it
  module _ {p : Profile} {q : Pipe} (e : given_profile p ≡ profiled l) (g : q ≡ pipe_at l 0 0) {units : ℕ} (u : units ≡ units_of q.pattern) where
    units_are : units ≡ units_of (lent_pattern l)
    units_are = u ∙ ap units_of (pattern_is l q g)

    units_more : 0 < units
    units_more = subst (λ (n : ℕ). 0 < n) (sym units_are) (units_some (lent_pattern l) known)

    slots_are : q.width / units ≡ (lent_way l).slots
    unfolding way_of
    slots_are = ap₂ (λ (a b : ℕ). a / b) (width_is l q g) units_are

    slots_few : q.width / units < 1024
    slots_few =
        let d : q.width / units ≤ q.width = div-le_self q.width units in
        omega (arith, width_is l q g, width_small l)

    bytes_are : q.width * 256 ≡ frame_bytes (lent_way l)
    bytes_are = ap (λ (x : ℕ). x * 256) (width_is l q g) ∙ sym (frame_is l h.pattern h.whole)

    at_is : f % (p.greatest + 1) * (q.width * 256) ≡ f % depth (lent_way l) * frame_bytes (lent_way l)
    at_is = ap₂ (λ (a : Profile) (b : ℕ). f % (a.greatest + 1) * b) (profile_is l codewords memory out e g) bytes_are

    takes_as : Takes q.pattern (q.width / units) codewords memory (f % (p.greatest + 1) * (q.width * 256))
    takes_as =
        let s : frame_bytes (lent_way l) ≡ q.width / units * codeword_bytes q.pattern =
        size_is ∙ ap₂ (λ (a b : ℕ). a * codeword_bytes b) (sym slots_are) (sym (pattern_is l q g)) in
        record {
          pattern = omega (arith, known, pattern_is l q g);
          few = slots_few;
          frame = h.frame ∙ s;
          room = omega (arith, row_room, at_is, s);
        }

    pub way_is : (b : ℕ) → b ≡ field_at l 25 1 → way p b (q.width / units) (4 * units) ≡ lent_way l
    unfolding way_of
    way_is b k = λ i. way (profile_is l codewords memory out e g i) ((k ∙ regrouping_is l) i) (slots_are i) (4 * units_are i)

    pub ring_is : (now : List ℕ)
        → now ≡ paste memory (f % (p.greatest + 1) * (q.width * 256)) (mixed_frame q.pattern (q.width / units) codewords) (q.width / units * codeword_bytes q.pattern)
        → now ≡ taken (lent_way l) f (mixed_frame (lent_pattern l) (lent_way l).slots codewords) memory
    unfolding taken
    ring_is now k =
        k
        ∙ ap (λ (a : ℕ). paste memory a (mixed_frame q.pattern (q.width / units) codewords) (q.width / units * codeword_bytes q.pattern)) at_is
        ∙ ap₂ (λ (a b : ℕ). paste memory (f % depth y * frame_bytes y) (mixed_frame a b codewords) (b * codeword_bytes a)) (pattern_is l q g) slots_are
        ∙ ap (λ (n : ℕ). paste memory (f % depth y * frame_bytes y) frame n) (sym size_is)

  taken_length : length (taken (lent_way l) f (mixed_frame (lent_pattern l) (lent_way l).slots codewords) memory) ≡ length memory
  unfolding taken
  taken_length = length-paste memory (f % depth y * frame_bytes y) frame (frame_bytes y) row_room (omega (arith, size_is, mixed_frame_length (lent_pattern l) (lent_way l).slots codewords))

  pub call_is : first_of (pipe_faults l codewords memory out) ≡ 0 → (now made : List ℕ) (x : Way) → x ≡ lent_way l
      → now ≡ taken (lent_way l) f (mixed_frame (lent_pattern l) (lent_way l).slots codewords) memory → made ≡ dispersing x f now out
      → Is (piping l f codewords memory out) 0 (now, made)
  unfolding piping step
  call_is z now made x w e d =
      let n : length now ≡ depth y * frame_bytes y = ap length e ∙ taken_length ∙ h.ring in
      let m : made ≡ tab (byte_from y f (taken y f frame memory)) 0 (frame_bytes y) =
      d ∙ ap (λ (v : Way). dispersing v f now out) w ∙ sym (read_out y f now out h.room n) ∙ ap (λ (v : List ℕ). tab (byte_from y f v) 0 (frame_bytes y)) e in
      acceptance_leaves (first_of (pipe_faults l codewords memory out)) ((step y f frame memory).memory, (step y f frame memory).answer) (memory, out) z (ap₂ (λ (a b : List ℕ). (a, b)) e m)

-- what an accepted call goes by, as the code finds it
pub record Found (l : List ℕ) (f : ℕ) (codewords memory out : List ℕ) (p : Profile) (q : Pipe) (units : ℕ) : Type 0 where
  pub none : first_of (pipe_faults l codewords memory out) ≡ 0
  pub fits : Fits l codewords memory out
  pub some : 0 < units
  pub few : q.width / units < 1024
  pub takes : Takes q.pattern (q.width / units) codewords memory (f % (p.greatest + 1) * (q.width * 256))

pub found : (l : List ℕ) (f : ℕ) (codewords memory out : List ℕ) {p : Profile} {q : Pipe} {units : ℕ} → given_profile p ≡ profiled l → q ≡ pipe_at l 0 0
    → 0 ≡ first_of (frame_faults 0 p.greatest q.pattern q.width (length codewords) (length memory) (length out)) → units ≡ units_of q.pattern → Found l f codewords memory out p q units
found l f codewords memory out told read none u =
    let z = sym (none ∙ faults_are l codewords memory out told read) in
    let h = accepted l codewords memory out z in
    record {
      none = z;
      fits = h;
      some = units_more l f codewords memory out h told read u;
      few = slots_few l f codewords memory out h told read u;
      takes = takes_as l f codewords memory out h told read u;
    }

-- a refused call
pub refused : (l : List ℕ) (f : ℕ) (codewords memory out : List ℕ) (r : ℕ) → r ≡ first_of (pipe_faults l codewords memory out) → (r ≡ 0 → ⊥) → Is (piping l f codewords memory out) r (memory, out)
unfolding piping
refused l f codewords memory out r e n =
    let o = step (lent_way l) f (mixed_frame (lent_pattern l) (lent_way l).slots codewords) memory in
    refusal_leaves (first_of (pipe_faults l codewords memory out)) (o.memory, o.answer) (memory, out) e n
