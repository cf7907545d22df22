-- Laws of the numbers in front of an open packet's bytes: what is told of them, and what they mean.
-- Assumes nothing.
use Prim.Native.Nat.{ℕ, ◌≤◌, ◌<◌}
use mathlib.Core.Path.{◌≡◌, sym, ap, subst}
use mathlib.Core.Bool.{true, false}
use mathlib.Core.List.{List}
use native.Mathlib.Omega.{arith}
use lib.ListN.{length, take, drop, length-take, length-drop}
use lib.Seq.{length-take-le}
use Rattle.std.specs.Prelude.{Result, Ok, Err}
use Rattle.ground.specs.Choice.{choose}
use Rattle.ip.specs.Read.{Open, none, begun, Sound}
use Rattle.ip.specs.Memory.{open_in}
use Rattle.ip.proofs.Memory.{open_meant}
use Rattle.ip_open.specs.declared.Opened.{Opened}
use Rattle.ip_open.specs.Opening.{Front, opened_in, told}

-- the numbers alone
abbrev numbers : Front → Opened
numbers f = record { kind = f.kind; error = f.error; length = f.length; sofar = f.sofar }

-- two answers that tell the same are one
pub told_same : (r s : Result Opened Opened) → told r ≡ told s → r ≡ s
told_same (Ok a) (Ok b) h = ap (λ (f : Front). Ok (numbers f)) h
told_same (Ok a) (Err b) h = let e : true ≡ false = ap (λ (f : Front). f.begun) h in cc
told_same (Err a) (Ok b) h = let e : false ≡ true = ap (λ (f : Front). f.begun) h in cc
told_same (Err a) (Err b) h = ap (λ (f : Front). Err (numbers f)) h

-- and what they mean
abbrev packet_in : List ℕ → Opened → Open
packet_in m o = begun o.kind o.error o.length (take o.sofar (drop 8 m))

module _ (m : List ℕ) where
  means : (r : Result Opened Opened) → told r ≡ opened_in m → choose (told r).begun (packet_in m (numbers (told r))) none ≡ open_in m
  unfolding open_in opened_in
  means r e = ap (λ (f : Front). choose f.begun (packet_in m (numbers f)) none) e

  pub means_none : (o : Opened) → told (Err o) ≡ opened_in m → open_in m ≡ none
  means_none o e = sym (means (Err o) e)

  pub means_begun : (o : Opened) → told (Ok o) ≡ opened_in m → open_in m ≡ begun o.kind o.error o.length (take o.sofar (drop 8 m))
  means_begun o e = sym (means (Ok o) e)

  -- not all of its bytes are there
  pub means_sound : (o : Opened) → length m ≡ 4104 → told (Ok o) ≡ opened_in m
      → (o.length ≤ 4095) × (o.sofar < o.length) × (length (take o.sofar (drop 8 m)) ≡ o.sofar)
  means_sound o h e =
      let p : Sound (packet_in m o) = subst Sound (means_begun o e) (open_meant m) in
      let k : o.sofar < o.length = omega (arith, p.4, p.5, length-take o.sofar (drop 8 m), length-drop 8 m) in
      (p.4, k, length-take-le o.sofar (drop 8 m) (omega (arith, p.4, length-drop 8 m)))
