-- `ending::close` meets its contract: the number is stored with no CRC, and then with the CRC over it. Assumes nothing.
use Prim.Native.Nat.{◌+◌, ◌*◌, ◌%◌}
use mathlib.Core.Path.{◌≡◌, ◌∙◌}
use native.Mathlib.Omega.{arith}
use Rattle.std.specs.Int.{w32, to_be_bytes}
use Rattle.ending.proofs.Closes.{closes, closed_none}
use Rattle.ending.proofs.close.Goals as goal

pub returns-then-word-ne-PAYLOAD_WORD : goal.returns-then-word-ne-PAYLOAD_WORD
returns-then-word-ne-PAYLOAD_WORD c =
    closed_none c.args.word.now c.args.head (λ e. omega (arith, c.if-word-ne-PAYLOAD_WORD.true))

pub returns : goal.returns
returns c =
    let s = c.args in
    let w = s.word.now in
    let bare : c.copy_from_slice.new.self ≡ to_be_bytes w32 (s.head % 262144 * 0x4000) = c.copy_from_slice.ensures.after ∙ c.to_be_bytes.ensures in
    let whole : c.copy_from_slice-2.new.self ≡ to_be_bytes w32 (s.head % 262144 * 0x4000 + c.from-crc.result * 0x40) = c.copy_from_slice-2.ensures.after ∙ c.to_be_bytes-2.ensures in
    let crc : c.from-crc.result ≡ c.crc.result = c.from-crc.ensures in
    closes w c.copy_from_slice.new.self c.copy_from_slice-2.new.self s.head c.from-crc.result (omega (arith, c.if-word-ne-PAYLOAD_WORD.false)) bare (crc ∙ c.crc.ensures) (omega (arith, c.crc.type_inv)) whole
