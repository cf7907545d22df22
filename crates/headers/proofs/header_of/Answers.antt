-- `headers::header_of` meets its contract: each offset stands in two bytes. Assumes nothing.
use Rattle.std.proofs.Common.{◌≡◌, ap, ap₂, ◌∙◌, ℕ, ◌/◌, ◌%◌, ◌<◌, List, [], ◌∷◌, arith}
use Rattle.description.specs.Sheet.{two, header, pipes_from, streams_from, sections_from, sheet_end}
use Rattle.headers.proofs.header_of.Goals as goal

two_bytes : {b l : List ℕ} {n : ℕ} (x : ℕ) → b ≡ l → l ≡ n / 256 % 256 ∷ n % 256 ∷ [] → n ≡ x → x < 65536 → b ≡ two x
two_bytes {n = n} x f e g h = f ∙ e ∙ ap₂ (λ (y z : ℕ). y ∷ z ∷ []) (omega arith) (omega arith)

pub returns : goal.returns
unfolding header
returns c =
    let a = c.args in
    let o = c.of-o.ensures in
    let p = two_bytes (pipes_from a.h) c.copy_from_slice.ensures.after c.to_be_bytes.ensures (ap (λ x. x.pipes) o) (omega arith) in
    let s = two_bytes (streams_from a.h a.p) c.copy_from_slice-2.ensures.after c.to_be_bytes-2.ensures (ap (λ x. x.streams) o) (omega arith) in
    let d = two_bytes (sections_from a.h a.p a.s) c.copy_from_slice-3.ensures.after c.to_be_bytes-3.ensures (ap (λ x. x.sections) o) (omega arith) in
    let e = two_bytes (sheet_end a.h a.p a.s a.d) c.copy_from_slice-4.ensures.after c.to_be_bytes-4.ensures (ap (λ x. x.end) o) (omega arith) in
    rw (p, s, d, e)
