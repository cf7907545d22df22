-- Laws of the refusals' numbers: none is 0, and a number is that of one refusal alone. So an answer is told whole by its number.
-- Assumes nothing.
use Prim.Native.Nat.{ℕ}
use lib.ListN.{get_or}
use mathlib.Core.List.{[], ◌∷◌}
use mathlib.Core.Path.{◌≡◌, refl, sym, ap, ◌∙◌}
use Rattle.std.specs.Prelude.{Result, Ok, Err}
use Rattle.ground.specs.declared.refusal.Refusal.{Refusal}
use Rattle.ground.specs.declared.refusal.Refusal.TheVariants.{LengthWrong, SpareSet, PatternAbove27, PatternNot0, CrcWrong, VersionNot0, ListsPass750, PaddingSet, WidthNoMultiple, Without32Taps, IdTwice, HeaderWrong, CountsDiffer, TopBitsSet, TypeUnknown, EncapNot0, CountAbove8, AddressWrong, PacketsWrong, ProfileWrong, FrameWrong}
use Rattle.ground.specs.Outcome.{Outcome, Is}
use Rattle.ground.specs.Refusals.{number, status}
use Rattle.ground.proofs.Outcome.{agree}

-- the refusal that has a number; any other number stands for the first
named : ℕ → Refusal
named n = get_or (LengthWrong ∷ LengthWrong ∷ SpareSet ∷ PatternAbove27 ∷ PatternNot0 ∷ CrcWrong ∷ VersionNot0 ∷ ListsPass750 ∷ PaddingSet ∷ WidthNoMultiple ∷ Without32Taps ∷ IdTwice ∷ HeaderWrong ∷ CountsDiffer ∷ TopBitsSet ∷ TypeUnknown ∷ EncapNot0 ∷ CountAbove8 ∷ AddressWrong ∷ PacketsWrong ∷ ProfileWrong ∷ FrameWrong ∷ []) n LengthWrong

named_number : (e : Refusal) → named (number e) ≡ e
unfolding named
named_number LengthWrong = refl
named_number SpareSet = refl
named_number PatternAbove27 = refl
named_number PatternNot0 = refl
named_number CrcWrong = refl
named_number VersionNot0 = refl
named_number ListsPass750 = refl
named_number PaddingSet = refl
named_number WidthNoMultiple = refl
named_number Without32Taps = refl
named_number IdTwice = refl
named_number HeaderWrong = refl
named_number CountsDiffer = refl
named_number TopBitsSet = refl
named_number TypeUnknown = refl
named_number EncapNot0 = refl
named_number CountAbove8 = refl
named_number AddressWrong = refl
named_number PacketsWrong = refl
named_number ProfileWrong = refl
named_number FrameWrong = refl

-- no refusal has the number 0
pub number_not_0 : (e : Refusal) → number e ≡ 0 → ⊥
number_not_0 LengthWrong h = cc
number_not_0 SpareSet h = cc
number_not_0 PatternAbove27 h = cc
number_not_0 PatternNot0 h = cc
number_not_0 CrcWrong h = cc
number_not_0 VersionNot0 h = cc
number_not_0 ListsPass750 h = cc
number_not_0 PaddingSet h = cc
number_not_0 WidthNoMultiple h = cc
number_not_0 Without32Taps h = cc
number_not_0 IdTwice h = cc
number_not_0 HeaderWrong h = cc
number_not_0 CountsDiffer h = cc
number_not_0 TopBitsSet h = cc
number_not_0 TypeUnknown h = cc
number_not_0 EncapNot0 h = cc
number_not_0 CountAbove8 h = cc
number_not_0 AddressWrong h = cc
number_not_0 PacketsWrong h = cc
number_not_0 ProfileWrong h = cc
number_not_0 FrameWrong h = cc

-- two refusals of one number are one
pub number_same : {e f : Refusal} → number e ≡ number f → e ≡ f
number_same {e} {f} h = sym (named_number e) ∙ ap named h ∙ named_number f

-- two answers of one number are one
pub status_same : (r s : Result Unit Refusal) → status r ≡ status s → r ≡ s
status_same (Ok u) (Ok v) h = refl
status_same (Ok u) (Err f) h = absurd (number_not_0 f (sym h))
status_same (Err e) (Ok v) h = absurd (number_not_0 e h)
status_same (Err e) (Err f) h = ap (λ (x : Refusal). Err x) (number_same h)

-- an answer of 0 is no refusal
pub status_ok : (r : Result Unit Refusal) → status r ≡ 0 → r ≡ Ok tt
status_ok r h = status_same r (Ok tt) h

-- two calls that had the same outcome agree in their answer and in what they left
pub agree_status : {M : Type 0} {want : Outcome ℕ M} {r s : Result Unit Refusal} {m n : M}
    → Is want (status r) m → Is want (status s) n → (r ≡ s) × (m ≡ n)
agree_status {r = r} {s = s} p q = let e = agree p q in (status_same r s e.0, e.1)
