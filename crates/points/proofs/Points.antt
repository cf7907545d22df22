-- The ten cases that document 01 marks P, under one claim, by computation.
-- Assumes nothing.
use Prim.Native.Nat.{ℕ}
use mathlib.Core.Path.{◌≡◌, refl, ◌∙◌}
use mathlib.Core.Logic.{inl}
use mathlib.Core.List.{List, map}
use native.Mathlib.Omega.{arith}
use lib.ListN.{length}
use Rattle.ground.specs.Choice.{any}
use Rattle.ground.specs.Table.{tab}
use Rattle.bits.specs.Lists.{bits, num, unpack, pack}
use Rattle.crc.specs.Crc.{clock, clocks, crc_of}
use Rattle.patterns.specs.Rates.{rates, rate_of, units_of}
use Rattle.patterns.specs.Sent.{code_length}
use Rattle.patterns.proofs.Length.{total_rule}
use Rattle.description.specs.Rows.{total, width, join, cut, joins, cuts}
use Rattle.description.specs.Description.{own_streams, own_sections, tail_owns, records_of, streams_of, sections_of, lists_of, stream_count, section_count}
use Rattle.description.specs.Layout.{body, padded, sealed}
use Rattle.description.specs.Sheet.{header, records, sheet_of, sheet}
use Rattle.description.specs.Tests.{version_fault, lists_fault, any_set, width_wrong, width_fault, taps_wrong, tap_fault, member, id_fault}
use Rattle.description.specs.Word.{multiplex_in, p_in, pipes_in, tail_in, s_in, d_in, streams_in, sections_in, lists_in, spare_fault, crc_fault, padding_fault, word_faults}
use Rattle.description.specs.Header.{header_fault}
use Rattle.description.specs.Form1.{sheet_sections, sheet_lists, lists_stated, top_fault, count_fault, record_faults, sheet_faults}
use Rattle.order.specs.Order.{parameter, entries5, entries9, entry, reversed, address, kept}
use Rattle.constituent.specs.Constituent.{y0, y1, next, state, feed, clocked}
use Rattle.constituent.specs.Symbols.{tail_symbols1}
use Rattle.turbo.specs.Encode.{code_bits}
use Rattle.turbo.proofs.CodeBits.{code_count}
use Rattle.points.specs.Points.{Point, points}

-- they are ten, and what the definitions give is what 01 says
pub points_hold : (length points ≡ 10) × (map (λ (c : Point). c.gives) points ≡ map (λ (c : Point). c.says) points)
unfolding points
    any tab
    bits num unpack pack
    clock clocks crc_of
    rates rate_of units_of code_length
    total width join cut joins cuts
    own_streams own_sections tail_owns records_of streams_of sections_of lists_of stream_count section_count
    body padded sealed
    header records sheet_of sheet
    version_fault lists_fault any_set width_wrong width_fault taps_wrong tap_fault member id_fault
    multiplex_in p_in pipes_in tail_in s_in d_in streams_in sections_in lists_in spare_fault crc_fault padding_fault word_faults
    header_fault sheet_sections sheet_lists lists_stated top_fault count_fault record_faults sheet_faults
    parameter entries5 entries9 entry reversed address kept
    y0 y1 next state feed clocked tail_symbols1
points_hold = (refl, refl)

-- the last case of the codeword itself: whatever the word, 36,864 code bits are sent
pub code_bits_lem : (w : List ℕ) → length (code_bits 5 12282 w) ≡ 36864
unfolding code_length rate_of rates
code_bits_lem w = code_count 5 12282 w ∙ total_rule 5 12282 (inl (omega arith, refl))
