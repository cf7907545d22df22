-- Samples: profiles as a second reading of clause 4.10.7 gives them, the last with a greatest delay of 6,160.
-- Assumes nothing.
use mathlib.Core.Path.{◌≡◌, refl}
use mathlib.Core.List.{[], ◌∷◌}
use Rattle.ground.specs.Table.{tab}
use Rattle.tap_lengths.specs.Lengths.{length_after, intermed_len}
use Rattle.profile.specs.Profile.{tap_length_by, flipped, max_delay, profile_of}

-- one section, and a fraction of 15 sixteenths
pub uniform : profile_of (0 ∷ 30 ∷ 0 ∷ 0 ∷ 0 ∷ 0 ∷ 0 ∷ 8 ∷ 14 ∷ 0 ∷ []) ((15 ∷ 4 ∷ 20 ∷ []) ∷ [])
    ≡ record { taps = 0 ∷ 270 ∷ 540 ∷ 810 ∷ 27 ∷ 297 ∷ 567 ∷ 837 ∷ 63 ∷ 333 ∷ 603 ∷ 873 ∷ 99 ∷ 369 ∷ 639 ∷ 909 ∷ 135 ∷ 405 ∷ 675 ∷ 945 ∷ 162 ∷ 432 ∷ 702 ∷ 972 ∷ 198 ∷ 468 ∷ 738 ∷ 1008 ∷ 234 ∷ 504 ∷ 774 ∷ 1044 ∷ []; greatest = 1044 }
unfolding profile_of max_delay tap_length_by flipped intermed_len length_after tab
uniform = refl

-- two sections with a gap, inverted
pub inverted : profile_of (0 ∷ 30 ∷ 0 ∷ 1 ∷ 1 ∷ 0 ∷ 0 ∷ 7 ∷ 15 ∷ 0 ∷ []) ((10 ∷ 5 ∷ 24 ∷ []) ∷ (4 ∷ 6 ∷ 27 ∷ []) ∷ [])
    ≡ record { taps = 1488 ∷ 1104 ∷ 600 ∷ 280 ∷ 1440 ∷ 1056 ∷ 560 ∷ 240 ∷ 1392 ∷ 840 ∷ 520 ∷ 200 ∷ 1344 ∷ 800 ∷ 480 ∷ 160 ∷ 1296 ∷ 760 ∷ 440 ∷ 120 ∷ 1248 ∷ 720 ∷ 400 ∷ 80 ∷ 1200 ∷ 680 ∷ 360 ∷ 40 ∷ 1152 ∷ 640 ∷ 320 ∷ 0 ∷ []; greatest = 1488 }
unfolding profile_of max_delay tap_length_by flipped intermed_len length_after tab
inverted = refl

-- four sections, and lengths that are rounded down before they are multiplied
pub rounded : profile_of (0 ∷ 30 ∷ 0 ∷ 3 ∷ 0 ∷ 0 ∷ 0 ∷ 7 ∷ 3 ∷ 0 ∷ []) ((8 ∷ 5 ∷ 27 ∷ []) ∷ (2 ∷ 1 ∷ 25 ∷ []) ∷ (2 ∷ 7 ∷ 3 ∷ []) ∷ (0 ∷ 1 ∷ 7 ∷ []) ∷ [])
    ≡ record { taps = 0 ∷ 80 ∷ 160 ∷ 232 ∷ 8 ∷ 88 ∷ 168 ∷ 248 ∷ 16 ∷ 96 ∷ 216 ∷ 264 ∷ 24 ∷ 104 ∷ 216 ∷ 272 ∷ 40 ∷ 120 ∷ 224 ∷ 288 ∷ 48 ∷ 128 ∷ 224 ∷ 304 ∷ 56 ∷ 136 ∷ 224 ∷ 320 ∷ 64 ∷ 144 ∷ 224 ∷ 320 ∷ []; greatest = 320 }
unfolding profile_of max_delay tap_length_by flipped intermed_len length_after tab
rounded = refl

-- eight sections, and the greatest delay that there is
pub greatest : profile_of (0 ∷ 30 ∷ 0 ∷ 7 ∷ 1 ∷ 0 ∷ 0 ∷ 15 ∷ 15 ∷ 0 ∷ []) ((0 ∷ 7 ∷ 31 ∷ []) ∷ (0 ∷ 7 ∷ 31 ∷ []) ∷ (0 ∷ 7 ∷ 31 ∷ []) ∷ (0 ∷ 7 ∷ 31 ∷ []) ∷ (0 ∷ 7 ∷ 31 ∷ []) ∷ (0 ∷ 7 ∷ 31 ∷ []) ∷ (0 ∷ 7 ∷ 31 ∷ []) ∷ (8 ∷ 7 ∷ 31 ∷ []) ∷ [])
    ≡ record { taps = 6160 ∷ 5264 ∷ 4368 ∷ 1936 ∷ 6048 ∷ 5152 ∷ 4256 ∷ 1824 ∷ 5936 ∷ 5040 ∷ 3760 ∷ 1328 ∷ 5824 ∷ 4928 ∷ 3648 ∷ 1216 ∷ 5712 ∷ 4816 ∷ 3152 ∷ 720 ∷ 5600 ∷ 4704 ∷ 3040 ∷ 608 ∷ 5488 ∷ 4592 ∷ 2544 ∷ 112 ∷ 5376 ∷ 4480 ∷ 2432 ∷ 0 ∷ []; greatest = 6160 }
unfolding profile_of max_delay tap_length_by flipped intermed_len length_after tab
greatest = refl
