-- Streams of calls of which each is known to have had the outcome that its function's promise gives, whatever shows it.
-- Assumes nothing.
use Prim.Native.Nat.{ℕ}
use mathlib.Core.Path.{◌≡◌, sym, subst}
use mathlib.Core.List.{List, [], ◌∷◌}
use Rattle.ip_streams.specs.Calls.{WriteCall, ReadCall, LostCall, Step, reads, loses, passes}
use Rattle.ip_streams.specs.Streams.{Delivers, ComesBack, Ends}
use Rattle.ip_streams.proofs.OneWrite.{Wrote}
use Rattle.ip_streams.proofs.OneRead.{Did, Dropped}
use Rattle.ip_streams.proofs.Delivery.{AllWrote, AllDid, delivers}
use Rattle.ip_streams.proofs.Returns.{comes_back, ends}

-- calls by what was lent, what was answered and what was left, in this order
abbrev pub a_write : ℕ → ℕ → List ℕ → List ℕ → List ℕ → ℕ → List ℕ → List ℕ → WriteCall
a_write i s q w p r w' p' = record { id = i; sent = s; queue = q; word = w; progress = p; answer = r; left_word = w'; left_progress = p' }

abbrev pub a_read : List ℕ → List ℕ → List ℕ → List ℕ → ℕ → List ℕ → List ℕ → List ℕ → ReadCall
a_read w m p h r m' p' h' = record { word = w; held = m; packets = p; header = h; answer = r; left_held = m'; left_packets = p'; left_header = h' }

abbrev pub a_loss : List ℕ → ℕ → List ℕ → LostCall
a_loss m r m' = record { held = m; answer = r; left_held = m' }

-- what holds of a call holds of one that is the same
pub back : {C : Type 0} (P : C → Type 0) {c d : C} → c ≡ d → P d → P c
back P e p = subst P (sym e) p

-- what is known of a call gives its outcome
pub record Keeping (W : WriteCall → Type 1) (R : ReadCall → Type 1) (L : LostCall → Type 1) : Type 1 where
  pub wrote : (c : WriteCall) → W c → Wrote c
  pub did : (a : ReadCall) → R a → Did a
  pub dropped : (b : LostCall) → L b → Dropped b

module _ (W : WriteCall → Type 1) (R : ReadCall → Type 1) (L : LostCall → Type 1) where
  abbrev pub AllWrites : List WriteCall → Type 1
  AllWrites [] = Unit
  AllWrites (c ∷ cs) = W c × AllWrites cs

  abbrev pub AllSteps : List Step → Type 1
  AllSteps [] = Unit
  AllSteps (reads a ∷ ss) = R a × AllSteps ss
  AllSteps (loses b ∷ ss) = L b × AllSteps ss
  AllSteps (passes a ∷ ss) = R a × AllSteps ss

  module _ (k : Keeping W R L) where
    all_wrote : (cs : List WriteCall) → AllWrites cs → AllWrote cs
    all_wrote [] h = tt
    all_wrote (c ∷ cs) h = (k.wrote c h.0, all_wrote cs h.1)

    all_did : (ss : List Step) → AllSteps ss → AllDid ss
    all_did [] h = tt
    all_did (reads a ∷ ss) h = (k.did a h.0, all_did ss h.1)
    all_did (loses b ∷ ss) h = (k.dropped b h.0, all_did ss h.1)
    all_did (passes a ∷ ss) h = (k.did a h.0, all_did ss h.1)

    pub kept_delivers : (js : List (List ℕ)) (cs : List WriteCall) (ss : List Step) → AllWrites cs → AllSteps ss → Delivers js cs ss
    kept_delivers js cs ss w r = delivers js cs ss (all_wrote cs w) (all_did ss r)

    pub kept_comes_back : (js : List (List ℕ)) (cs : List WriteCall) (ss : List Step) → AllWrites cs → AllSteps ss → ComesBack js cs ss
    kept_comes_back js cs ss w r = comes_back js cs ss (all_wrote cs w) (all_did ss r)

    pub kept_ends : (q : List ℕ) (cs : List WriteCall) → AllWrites cs → Ends q cs
    kept_ends q cs w = ends q cs (all_wrote cs w)
