-- The puncturing rows: how often each symbol of a group is sent (tables 7 and 8; their rows 1, 4, 6, 9, 19, 23 and 25 to 27 are damaged, and document 01's table decides).
-- Assumes nothing.
use Rattle.std.specs.Prelude.{ℕ, ◌-◌, ◌*◌, ◌+◌, ◌/◌, ◌%◌, ◌^◌, List, [], ◌∷◌, ◌++◌, ltb, length, get_or, replicate}
use Rattle.ground.specs.Choice.{choose}

-- A group has five symbols, X Y0 Y1 Y'0 Y'1. It is written as five octal digits, of which each says how often its symbol is sent.

-- the groups that have a letter
abbrev pub a : ℕ
a = 0o10000

abbrev pub b : ℕ
b = 0o10010

abbrev pub c : ℕ
c = 0o11000

abbrev pub d : ℕ
d = 0o10101

abbrev pub e : ℕ
e = 0o11010

abbrev pub f : ℕ
f = 0o00101

abbrev pub g : ℕ
g = 0o01010

abbrev pub h : ℕ
h = 0o11111

-- the data rows by pattern number (table 7)
unfoldable pub data_rows : List (List ℕ)
data_rows =
    (h ∷ []) ∷  -- 0
    (0o10111 ∷ h ∷ 0o11101 ∷ h ∷ []) ∷  -- 1
    (0o11101 ∷ 0o11011 ∷ []) ∷  -- 2
    (d ∷ 0o10111 ∷ d ∷ 0o11101 ∷ []) ∷  -- 3
    (e ∷ e ∷ e ∷ e ∷ e ∷ h ∷ []) ∷  -- 4
    (e ∷ []) ∷  -- 5
    (d ∷ []) ∷  -- 6
    (g ∷ e ∷ e ∷ []) ∷  -- 7
    (d ∷ f ∷ d ∷ []) ∷  -- 8
    (a ∷ d ∷ f ∷ d ∷ d ∷ f ∷ d ∷ d ∷ f ∷ d ∷ d ∷ f ∷ []) ∷  -- 9
    (e ∷ g ∷ e ∷ e ∷ g ∷ a ∷ e ∷ g ∷ e ∷ e ∷ g ∷ e ∷ []) ∷  -- 10
    (a ∷ e ∷ g ∷ e ∷ g ∷ e ∷ []) ∷  -- 11
    (d ∷ f ∷ d ∷ a ∷ d ∷ f ∷ []) ∷  -- 12
    (c ∷ b ∷ []) ∷  -- 13
    (b ∷ c ∷ []) ∷  -- 14
    (0o10100 ∷ 0o10001 ∷ []) ∷  -- 15
    (a ∷ b ∷ c ∷ []) ∷  -- 16
    (b ∷ c ∷ a ∷ []) ∷  -- 17
    (c ∷ a ∷ b ∷ []) ∷  -- 18
    (a ∷ a ∷ a ∷ d ∷ []) ∷  -- 19
    (a ∷ d ∷ a ∷ a ∷ []) ∷  -- 20
    (a ∷ a ∷ d ∷ a ∷ []) ∷  -- 21
    (a ∷ a ∷ c ∷ a ∷ a ∷ b ∷ []) ∷  -- 22
    (a ∷ b ∷ a ∷ a ∷ c ∷ a ∷ []) ∷  -- 23
    (c ∷ a ∷ a ∷ b ∷ a ∷ a ∷ []) ∷  -- 24
    (replicate 10 a ++ (0o10100 ∷ 0o10001 ∷ [])) ∷  -- 25
    (replicate 6 a ++ (0o10100 ∷ 0o10001 ∷ replicate 4 a)) ∷  -- 26
    (a ∷ a ∷ 0o10100 ∷ 0o10001 ∷ replicate 8 a) ∷ []  -- 27

-- the tail rows by pattern number (table 8): the copies of X Y0 Y1 three times, then of X' Y'0 Y'1 three times
unfoldable pub tail_rows : List (List ℕ)
tail_rows =
    replicate 6 0o311 ∷  -- 0
    (0o311 ∷ 0o311 ∷ 0o211 ∷ 0o211 ∷ 0o211 ∷ 0o311 ∷ []) ∷  -- 1
    replicate 6 0o211 ∷  -- 2
    (0o111 ∷ 0o211 ∷ 0o211 ∷ 0o211 ∷ 0o111 ∷ 0o111 ∷ []) ∷  -- 3
    (0o111 ∷ 0o111 ∷ 0o211 ∷ 0o111 ∷ 0o111 ∷ 0o211 ∷ []) ∷  -- 4
    replicate 6 0o210 ∷  -- 5
    replicate 6 0o201 ∷  -- 6
    (0o110 ∷ 0o111 ∷ 0o111 ∷ 0o110 ∷ 0o111 ∷ 0o111 ∷ []) ∷  -- 7
    (0o101 ∷ 0o111 ∷ 0o111 ∷ 0o101 ∷ 0o111 ∷ 0o111 ∷ []) ∷  -- 8
    (0o111 ∷ 0o111 ∷ 0o101 ∷ 0o111 ∷ 0o111 ∷ 0o101 ∷ []) ∷  -- 9
    (0o111 ∷ 0o110 ∷ 0o111 ∷ 0o111 ∷ 0o110 ∷ 0o111 ∷ []) ∷  -- 10
    (0o110 ∷ 0o110 ∷ 0o111 ∷ 0o110 ∷ 0o110 ∷ 0o111 ∷ []) ∷  -- 11
    (0o101 ∷ 0o101 ∷ 0o111 ∷ 0o101 ∷ 0o101 ∷ 0o111 ∷ []) ∷  -- 12
    replicate 6 0o110 ∷  -- 13
    replicate 6 0o101 ∷  -- 14
    replicate 6 0o110 ∷  -- 15
    (0o101 ∷ 0o100 ∷ 0o110 ∷ 0o100 ∷ 0o110 ∷ 0o101 ∷ []) ∷  -- 16
    (0o100 ∷ 0o110 ∷ 0o101 ∷ 0o110 ∷ 0o101 ∷ 0o100 ∷ []) ∷  -- 17
    (0o110 ∷ 0o101 ∷ 0o100 ∷ 0o101 ∷ 0o100 ∷ 0o110 ∷ []) ∷  -- 18
    (0o100 ∷ 0o101 ∷ 0o101 ∷ 0o100 ∷ 0o101 ∷ 0o101 ∷ []) ∷  -- 19
    (0o101 ∷ 0o100 ∷ 0o100 ∷ 0o101 ∷ 0o100 ∷ 0o100 ∷ []) ∷  -- 20
    (0o101 ∷ 0o101 ∷ 0o100 ∷ 0o101 ∷ 0o101 ∷ 0o100 ∷ []) ∷  -- 21
    (0o100 ∷ 0o100 ∷ 0o110 ∷ 0o100 ∷ 0o100 ∷ 0o110 ∷ []) ∷  -- 22
    (0o100 ∷ 0o110 ∷ 0o100 ∷ 0o100 ∷ 0o110 ∷ 0o100 ∷ []) ∷  -- 23
    (0o110 ∷ 0o100 ∷ 0o100 ∷ 0o110 ∷ 0o100 ∷ 0o100 ∷ []) ∷  -- 24
    (0o100 ∷ 0o101 ∷ 0o100 ∷ 0o100 ∷ 0o100 ∷ 0o101 ∷ []) ∷  -- 25
    (0o101 ∷ 0o100 ∷ 0o100 ∷ 0o100 ∷ 0o101 ∷ 0o100 ∷ []) ∷  -- 26
    replicate 6 0o100 ∷ []  -- 27

-- the data group i: the row repeats over the groups, and its last period may be cut short (clause 4.4.2)
unfoldable pub data_group : ℕ → ℕ → ℕ
data_group p i = let row : List ℕ = get_or data_rows p [] in get_or row (i % length row) 0

-- the tail group t: the first three have X Y0 Y1 of encoder 1 at their places 0 1 2, the last three X' Y'0 Y'1 of encoder 2 at 0 3 4 (clause 4.4.3)
unfoldable pub tail_group : ℕ → ℕ → ℕ
tail_group p t =
    let triple : ℕ = get_or (get_or tail_rows p []) t 0 in
    choose (ltb t 3) (triple * 0o100) (triple / 0o100 * 0o10000 + triple % 0o100)

-- the group i of a lane of n data groups and the six tail groups after them
unfoldable pub group_at : ℕ → ℕ → ℕ → ℕ
group_at p n i = choose (ltb i n) (data_group p i) (tail_group p (i - n))

-- how often the symbol s of a group is sent: its digit
unfoldable pub digit : ℕ → ℕ → ℕ
digit x s = x / 8 ^ (4 - s) % 8

-- how often the place k of the lane is sent under pattern p
unfoldable pub copies : ℕ → ℕ → ℕ → ℕ
copies p n k = digit (group_at p n (k / 5)) (k % 5)
