-- Laws of a pattern's tables: twice as many entries, six bits, three tables, both halves.
-- Assumes nothing.
use Prim.Native.Nat.{ℕ, zero, suc, ◌+◌, ◌-◌, ◌*◌, ◌/◌, ◌%◌, ◌^◌, ◌<◌}
use mathlib.Core.Path.{◌≡◌, refl, sym, ap, ap₂, ◌∙◌, subst}
use mathlib.Core.List.{List, [], ◌∷◌, ◌++◌, map}
use native.Mathlib.Nat.{pow-suc, zero-add, zero-mul, one-mul, mul_comm, add-mul}
use native.Mathlib.Decide.{dec_lt}
use native.Mathlib.Omega.{arith}
use lib.Bits.{bit_xor, xor_self, xor_comm}
use lib.Pow.{pow-add, pow_pos, shl_lt}
use lib.ListN.{get_or, take, drop}
use lib.Seq.{get_or-take, get_or-drop}
use Rattle.ground.specs.Table.{tab}
use Rattle.ground.proofs.Table.{get_or_tab, tab_cong, tab_shift, tab_append, map_tab}
use Rattle.bits.specs.Places.{number}
use Rattle.bits.proofs.Places.{number_bit}
use Rattle.patterns.specs.Rows.{digit}
use Rattle.patterns.specs.Sent.{total}
use Rattle.patterns.proofs.Totals.{total_cong}
use Rattle.constituent.specs.Six.{joint, impulses}
use Rattle.constituent.specs.Segment.{digit_at, weight}
use Rattle.constituent.proofs.Segments.{segment_cong, segment_xor, segment_sum}
use Rattle.constituent.proofs.Joint.{Joins, joint_lt, joint_sum, joins_apart}
use Rattle.tables.specs.Plan.{half_at, coded, look_at, plan_of}
use Rattle.tables.specs.Tables.{weights_of, weighed, sums, half_look}
use Rattle.tables.specs.declared.Plan.{Plan}
use Rattle.tables.proofs.Weighing.{half_data, half_then, half_once, weights_at}

-- ---- what is sent of a sum is the sum of what is sent
module _ (rows : List ℕ) (h : ℕ) where
  pub coded_sum : (x y z : ℕ) → Joins x y z → coded rows h z ≡ bit_xor (coded rows h x) (coded rows h y)
  unfolding coded
  coded_sum x y z J = segment_xor (half_at rows h) (half_once rows h) (joint x) (joint y) (joint z) 36 (joint_lt x) (joint_lt y) (joint_sum x y z J)

  -- a bit by itself, by its impulse
  pub impulse_coded : (b : ℕ) → b < 18 → total (weighed (weights_of rows h) (get_or impulses b 0)) 36 ≡ coded rows h (2 ^ b)
  unfolding coded impulses
  impulse_coded b hb =
      let x : ℕ = number (joint (2 ^ b)) 0 36 in
      let e : get_or impulses b 0 ≡ x = get_or_tab (λ c. number (joint (2 ^ c)) 0 36) 0 0 18 b hb ∙ ap (λ (c : ℕ). number (joint (2 ^ c)) 0 36) (zero-add b) in
      total_cong (weighed (weights_of rows h) (get_or impulses b 0)) (λ t. joint (2 ^ b) t * weight (half_at rows h) 36 t) 36
      (λ t l.
      let c : t + 1 + (35 - t) ≡ 36 = omega arith in
      let y : x / 2 ^ (35 - t) % 2 ≡ joint (2 ^ b) t =
      subst (λ (n : ℕ). number (joint (2 ^ b)) 0 n / 2 ^ (35 - t) % 2 ≡ joint (2 ^ b) (0 + t)) c (number_bit (joint (2 ^ b)) (joint_lt (2 ^ b)) 0 t (35 - t)) ∙ ap (joint (2 ^ b)) (zero-add t) in
      ap₂ (λ (m n : ℕ). m / 2 ^ (35 - t) % 2 * n) e (weights_at rows h t l) ∙ ap (λ (n : ℕ). n * weight (half_at rows h) 36 t) y)
      ∙ sym (segment_sum (half_at rows h) (half_once rows h) (joint (2 ^ b)) 36)

  -- nothing gives nothing
  pub coded_none : coded rows h 0 ≡ 0
  coded_none = same (coded rows h 0) (coded_sum 0 0 0 (joins_apart 0 0 0 (pow_pos 0)))
    where
      same : (a : ℕ) → a ≡ bit_xor a a → a ≡ 0
      same a e = e ∙ xor_self a

  -- the sums of what the bits from the bit i on give are what is sent of each number that they write
  pub sums_coded : (g : ℕ → ℕ) (i n : ℕ) → ((b : ℕ) → b < n → g b ≡ coded rows h (2 ^ (i + b))) → sums g n ≡ tab (λ x. coded rows h (x * 2 ^ i)) 0 (2 ^ n)
  unfolding sums tab
  sums_coded g i zero e = ap (λ (x : ℕ). x ∷ []) (sym (ap (coded rows h) (zero-mul (2 ^ i)) ∙ coded_none))
  sums_coded g i (suc n) e =
      let f : ℕ → ℕ = λ x. coded rows h (x * 2 ^ i) in
      let m : ℕ = 2 ^ n in
      let twice : m + m ≡ 2 ^ suc n = omega (arith, pow-suc 2 n) in
      let before : sums g n ≡ tab f 0 m = sums_coded g i n (λ b l. e b (omega arith)) in
      let more : map (λ x. bit_xor x (g n)) (tab f 0 m) ≡ tab f m m =
      map_tab (λ x. bit_xor x (g n)) f 0 m
      ∙ tab_cong (λ x. bit_xor (f x) (g n)) (λ x. f (m + x)) 0 m (λ x l. ap (λ (y : ℕ). bit_xor (f (0 + x)) y) (e n (omega arith)) ∙ sym (above i n (0 + x) (omega arith)))
      ∙ tab_shift f m m in
      ap₂ (λ (a b : List ℕ). a ++ map (λ x. bit_xor x (g n)) b) before before ∙ ap (λ (b : List ℕ). tab f 0 m ++ b) more
      ∙ ap (λ (k : ℕ). tab f 0 m ++ tab f k m) (sym (zero-add m)) ∙ sym (tab_append f 0 m m) ∙ ap (tab f 0) twice
    where
      -- one bit more, above the n bits of x
      above : (i n x : ℕ) → x < 2 ^ n → coded rows h ((2 ^ n + x) * 2 ^ i) ≡ bit_xor (coded rows h (x * 2 ^ i)) (coded rows h (2 ^ (i + n)))
      above i n x l =
          let small : x * 2 ^ i < 2 ^ (i + n) = subst (λ (m : ℕ). x * 2 ^ i < 2 ^ m) {x = n + i} {y = i + n} (omega arith) (shl_lt n i l) in
          let high : 1 * 2 ^ (i + n) ≡ 2 ^ (i + n) = one-mul (2 ^ (i + n)) in
          let up : 2 ^ (i + n) ≡ 2 ^ n * 2 ^ i = pow-add 2 i n ∙ mul_comm (2 ^ i) (2 ^ n) in
          let split : (2 ^ n + x) * 2 ^ i ≡ 1 * 2 ^ (i + n) + x * 2 ^ i = add-mul (2 ^ n) x (2 ^ i) ∙ ap (λ (m : ℕ). m + x * 2 ^ i) (sym (high ∙ up)) in
          ap (coded rows h) split ∙ coded_sum (1 * 2 ^ (i + n)) (x * 2 ^ i) (1 * 2 ^ (i + n) + x * 2 ^ i) (joins_apart (i + n) 1 (x * 2 ^ i) small)
          ∙ ap (λ (m : ℕ). bit_xor (coded rows h m) (coded rows h (x * 2 ^ i))) high
          ∙ xor_comm (coded rows h (2 ^ (i + n))) (coded rows h (x * 2 ^ i))

-- ---- both halves
-- the entry x of the table i of the half h
look_at_lem : (rows : List ℕ) (h i x : ℕ) → h < 2 → i < 3 → x < 64 → look_at rows (192 * h + 64 * i + x) ≡ coded rows h (x * 2 ^ (6 * i))
unfolding look_at
look_at_lem rows h i x hh hi hx =
    let k : ℕ = 192 * h + 64 * i + x in
    let e1 : k / 192 ≡ h = omega arith in
    let e2 : k % 64 ≡ x = omega arith in
    let q : k / 64 ≡ 3 * h + i = omega arith in
    let e3 : k / 64 % 3 ≡ i = ap (λ (a : ℕ). a % 3) q ∙ third in
    ap₂ (λ (a b : ℕ). coded rows a (b * 2 ^ (6 * (k / 64 % 3)))) e1 e2 ∙ ap (λ (a : ℕ). coded rows h (x * 2 ^ (6 * a))) e3
  where
    third : (3 * h + i) % 3 ≡ i
    third = omega arith

pub plan_at : (rows : List ℕ) (h i x : ℕ) → h < 2 → i < 3 → x < 64 → get_or (plan_of rows).look (192 * h + 64 * i + x) 0 ≡ coded rows h (x * 2 ^ (6 * i))
unfolding plan_of
plan_at rows h i x hh hi hx =
    let k : ℕ = 192 * h + 64 * i + x in
    get_or_tab (look_at rows) 0 0 384 k (omega arith) ∙ ap (look_at rows) (zero-add k) ∙ look_at_lem rows h i x hh hi hx

-- the table j of a half
pub table_of : (rows : List ℕ) (h j : ℕ) → h < 2 → j < 3 → tab (λ x. coded rows h (x * 2 ^ (6 * j))) 0 64 ≡ tab (look_at rows) (192 * h + 64 * j) 64
table_of rows h j hh hj =
    let k : ℕ = 192 * h + 64 * j in
    tab_cong (λ x. coded rows h (x * 2 ^ (6 * j))) (λ x. look_at rows (k + x)) 0 64 (λ x l. sym (look_at_lem rows h j (0 + x) hh hj (omega arith)))
    ∙ tab_shift (look_at rows) k 64

-- ---- a second half that is as the first
module _ (rows : List ℕ) (R : take 6 (drop 6 rows) ≡ take 6 rows) where
  same : (i : ℕ) → i < 6 → get_or rows (6 + i) 0 ≡ get_or rows i 0
  same i l =
      sym (get_or-take 6 (drop 6 rows) i 0 l ∙ get_or-drop 6 rows i 0) ∙ ap (λ (m : List ℕ). get_or m i 0) R ∙ get_or-take 6 rows i 0 l

  half_same : (k : ℕ) → half_at rows 1 k ≡ half_at rows 0 k
  unfolding digit_at
  half_same k =
      elim (dec_lt k 30) [
        | yes l ↦ (
            let e1 : (30 * 1 + k) / 5 ≡ 6 + (30 * 0 + k) / 5 = omega arith in
            let e2 : (30 * 1 + k) % 5 ≡ (30 * 0 + k) % 5 = omega arith in
            half_data rows 1 k l ∙ ap₂ (λ (x y : ℕ). digit (get_or rows x 0) y % 2) e1 e2 ∙ ap (λ (x : ℕ). digit x ((30 * 0 + k) % 5) % 2) (same ((30 * 0 + k) / 5) (omega arith))
            ∙ sym (half_data rows 0 k l))
        | no l ↦ half_then rows 1 k (omega arith) ∙ sym (half_then rows 0 k (omega arith))
      ]

  pub total_same : total (half_at rows 0) 30 ≡ total (half_at rows 1) 30
  total_same = total_cong (half_at rows 0) (half_at rows 1) 30 (λ k l. sym (half_same k))

  pub look_same : half_look rows 1 ≡ half_look rows 0
  unfolding half_look look_at coded
  look_same =
      sym (tab_shift (look_at rows) 192 192)
      ∙ tab_cong (λ k. look_at rows (192 + k)) (look_at rows) 0 192
      (λ k l.
      let e0 : (0 + k) / 192 ≡ 0 = omega arith in
      let e1 : (192 + (0 + k)) / 192 ≡ 1 = omega arith in
      let e2 : (192 + (0 + k)) % 64 ≡ (0 + k) % 64 = omega arith in
      let e3 : (192 + (0 + k)) / 64 % 3 ≡ (0 + k) / 64 % 3 = omega arith in
      ap₂ (λ (a b : ℕ). coded rows a (b * 2 ^ (6 * ((192 + (0 + k)) / 64 % 3)))) e1 e2 ∙ ap (λ (a : ℕ). coded rows 1 ((0 + k) % 64 * 2 ^ (6 * a))) e3
      ∙ segment_cong (half_at rows 1) (half_at rows 0) _ _ 36 (λ t _. half_same t) (λ t _. refl)
      ∙ sym (ap (λ (a : ℕ). coded rows a ((0 + k) % 64 * 2 ^ (6 * ((0 + k) / 64 % 3)))) e0))

-- the tables of both halves
pub planned : (rows : List ℕ) (p : Plan) → p.look ≡ half_look rows 0 ++ half_look rows 1 → p.k0 ≡ total (half_at rows 0) 30 → p.k1 ≡ total (half_at rows 1) 30 → p ≡ plan_of rows
unfolding plan_of half_look
planned rows p el e0 e1 = same (el ∙ sym (tab_append (look_at rows) 0 192 192)) e0 e1
  where
    same : {s t : List ℕ} {m n m' n' : ℕ} → s ≡ t → m ≡ m' → n ≡ n' → ◌≡◌ {A = Plan} (record { look = s; k0 = m; k1 = n }) (record { look = t; k0 = m'; k1 = n' })
    same x y z = cc
