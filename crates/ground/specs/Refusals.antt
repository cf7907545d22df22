-- The numbers of the refusals (documents 01 and 02), and of an answer as it is handed to C.
-- Assumes nothing.
use Rattle.std.specs.Prelude.{ℕ, Result, Ok, Err}
use Rattle.ground.specs.declared.refusal.Refusal.{Refusal}
use Rattle.ground.specs.declared.refusal.Refusal.TheVariants.{LengthWrong, SpareSet, PatternAbove27, PatternNot0, CrcWrong, VersionNot0, ListsPass750, PaddingSet, WidthNoMultiple, Without32Taps, IdTwice, HeaderWrong, CountsDiffer, TopBitsSet, TypeUnknown, EncapNot0, CountAbove8, AddressWrong, PacketsWrong, ProfileWrong, FrameWrong}

-- the number of a refusal
abbrev pub number : Refusal → ℕ
number LengthWrong = 1
number SpareSet = 2
number PatternAbove27 = 3
number PatternNot0 = 4
number CrcWrong = 5
number VersionNot0 = 6
number ListsPass750 = 7
number PaddingSet = 8
number WidthNoMultiple = 9
number Without32Taps = 10
number IdTwice = 11
number HeaderWrong = 12
number CountsDiffer = 13
number TopBitsSet = 14
number TypeUnknown = 15
number EncapNot0 = 16
number CountAbove8 = 17
number AddressWrong = 18
number PacketsWrong = 19
number ProfileWrong = 20
number FrameWrong = 21

-- the number of an answer: 0 where nothing is refused
abbrev pub status : {A : Type 0} → Result A Refusal → ℕ
status (Ok a) = 0
status (Err e) = number e
