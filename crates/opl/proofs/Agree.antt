-- Of every exported function: any two outcomes that its promise allows agree.
-- Assumes nothing.
use mathlib.Core.Path.{◌≡◌, ap}
use contract.Lifetimes.{Lfts}
use borrow.Fn.World.{ArgsD, ResD}
use borrow.Fn.Kinds.{ended_of}
use denote.Triple.Clauses.{AtExit}
use Rattle.ground.proofs.Outcome.{agree}
use Rattle.opl.specs.contracts.opl_preamble as opl_preamble
use Rattle.opl.proofs.opl_preamble.Kinds as opl_preamble_kinds
use Rattle.opl.proofs.opl_preamble.Reads as opl_preamble_reads
use Rattle.opl.specs.contracts.opl_preamble_form as opl_preamble_form
use Rattle.opl.proofs.opl_preamble_form.Kinds as opl_preamble_form_kinds
use Rattle.opl.proofs.opl_preamble_form.Reads as opl_preamble_form_reads
use Rattle.opl.specs.contracts.opl_signalling_read as opl_signalling_read
use Rattle.opl.proofs.opl_signalling_read.Kinds as opl_signalling_read_kinds
use Rattle.opl.proofs.opl_signalling_read.Reads as opl_signalling_read_reads
use Rattle.opl.specs.contracts.opl_payload_write as opl_payload_write
use Rattle.opl.proofs.opl_payload_write.Kinds as opl_payload_write_kinds
use Rattle.opl.proofs.opl_payload_write.Reads as opl_payload_write_reads
use Rattle.opl.specs.contracts.opl_payload_read as opl_payload_read
use Rattle.opl.proofs.opl_payload_read.Kinds as opl_payload_read_kinds
use Rattle.opl.proofs.opl_payload_read.Reads as opl_payload_read_reads
use Rattle.opl.specs.contracts.opl_signalling_write as opl_signalling_write
use Rattle.opl.proofs.opl_signalling_write.Kinds as opl_signalling_write_kinds
use Rattle.opl.proofs.opl_signalling_write.Reads as opl_signalling_write_reads
use Rattle.opl.specs.contracts.opl_encode as opl_encode
use Rattle.opl.proofs.opl_encode.Kinds as opl_encode_kinds
use Rattle.opl.proofs.opl_encode.Reads as opl_encode_reads
use Rattle.opl.specs.contracts.opl_place as opl_place
use Rattle.opl.proofs.opl_place.Kinds as opl_place_kinds
use Rattle.opl.proofs.opl_place.Reads as opl_place_reads
use Rattle.opl.specs.contracts.opl_ip_write as opl_ip_write
use Rattle.opl.proofs.opl_ip_write.Kinds as opl_ip_write_kinds
use Rattle.opl.proofs.opl_ip_write.Reads as opl_ip_write_reads
use Rattle.opl.specs.contracts.opl_ip_read as opl_ip_read
use Rattle.opl.proofs.opl_ip_read.Kinds as opl_ip_read_kinds
use Rattle.opl.proofs.opl_ip_read.Reads as opl_ip_read_reads
use Rattle.opl.specs.contracts.opl_ip_lost as opl_ip_lost
use Rattle.opl.proofs.opl_ip_lost.Kinds as opl_ip_lost_kinds
use Rattle.opl.proofs.opl_ip_lost.Reads as opl_ip_lost_reads
use Rattle.opl.specs.contracts.opl_mix as opl_mix
use Rattle.opl.proofs.opl_mix.Kinds as opl_mix_kinds
use Rattle.opl.proofs.opl_mix.Reads as opl_mix_reads
use Rattle.opl.specs.contracts.opl_profile as opl_profile
use Rattle.opl.proofs.opl_profile.Kinds as opl_profile_kinds
use Rattle.opl.proofs.opl_profile.Reads as opl_profile_reads
use Rattle.opl.specs.contracts.opl_pipe as opl_pipe
use Rattle.opl.proofs.opl_pipe.Kinds as opl_pipe_kinds
use Rattle.opl.proofs.opl_pipe.Reads as opl_pipe_reads

module _ (κs : Lfts 1) (a : ArgsD opl_preamble.signature κs) where
  pub opl_preamble_agrees : (r r' : ResD opl_preamble.signature κs) (s s' : AtExit (ended_of 1 opl_preamble_kinds.ps opl_preamble_kinds.r) κs) →
      opl_preamble_reads.Post κs a r s → opl_preamble_reads.Post κs a r' s' → (r ≡ r') × (s.1.0.now ≡ s'.1.0.now)
  opl_preamble_agrees r r' s s' p q = agree p q

module _ (κs : Lfts 2) (a : ArgsD opl_preamble_form.signature κs) where
  pub opl_preamble_form_agrees : (r r' : ResD opl_preamble_form.signature κs) (s s' : AtExit (ended_of 2 opl_preamble_form_kinds.ps opl_preamble_form_kinds.r) κs) →
      opl_preamble_form_reads.Post κs a r s → opl_preamble_form_reads.Post κs a r' s' → (r ≡ r') × (s.1.0.now ≡ s'.1.0.now)
  opl_preamble_form_agrees r r' s s' p q = agree p q

module _ (κs : Lfts 2) (a : ArgsD opl_signalling_read.signature κs) where
  pub opl_signalling_read_agrees : (r r' : ResD opl_signalling_read.signature κs) (s s' : AtExit (ended_of 2 opl_signalling_read_kinds.ps opl_signalling_read_kinds.r) κs) →
      opl_signalling_read_reads.Post κs a r s → opl_signalling_read_reads.Post κs a r' s' → (r ≡ r') × (s.1.0.now ≡ s'.1.0.now)
  opl_signalling_read_agrees r r' s s' p q = agree p.0 q.0

module _ (κs : Lfts 3) (a : ArgsD opl_payload_write.signature κs) where
  pub opl_payload_write_agrees : (r r' : ResD opl_payload_write.signature κs) (s s' : AtExit (ended_of 3 opl_payload_write_kinds.ps opl_payload_write_kinds.r) κs) →
      opl_payload_write_reads.Post κs a r s → opl_payload_write_reads.Post κs a r' s' → (r ≡ r') × (s.1.1.1.1.1.0.now ≡ s'.1.1.1.1.1.0.now)
  opl_payload_write_agrees r r' s s' p q = agree p.0 q.0

module _ (κs : Lfts 2) (a : ArgsD opl_payload_read.signature κs) where
  pub opl_payload_read_agrees : (r r' : ResD opl_payload_read.signature κs) (s s' : AtExit (ended_of 2 opl_payload_read_kinds.ps opl_payload_read_kinds.r) κs) →
      opl_payload_read_reads.Post κs a r s → opl_payload_read_reads.Post κs a r' s' → (r ≡ r') × (s.1.0.now ≡ s'.1.0.now)
  opl_payload_read_agrees r r' s s' p q = agree p q

module _ (κs : Lfts 2) (a : ArgsD opl_signalling_write.signature κs) where
  pub opl_signalling_write_agrees : (r r' : ResD opl_signalling_write.signature κs) (s s' : AtExit (ended_of 2 opl_signalling_write_kinds.ps opl_signalling_write_kinds.r) κs) →
      opl_signalling_write_reads.Post κs a r s → opl_signalling_write_reads.Post κs a r' s' → (r ≡ r') × (s.1.0.now ≡ s'.1.0.now)
  opl_signalling_write_agrees r r' s s' p q = agree p.0 q.0

module _ (κs : Lfts 2) (a : ArgsD opl_encode.signature κs) where
  pub opl_encode_agrees : (r r' : ResD opl_encode.signature κs) (s s' : AtExit (ended_of 2 opl_encode_kinds.ps opl_encode_kinds.r) κs) →
      opl_encode_reads.Post κs a r s → opl_encode_reads.Post κs a r' s' → (r ≡ r') × (s.1.1.0.now ≡ s'.1.1.0.now)
  opl_encode_agrees r r' s s' p q = agree p q

module _ (κs : Lfts 2) (a : ArgsD opl_place.signature κs) where
  pub opl_place_agrees : (r r' : ResD opl_place.signature κs) (s s' : AtExit (ended_of 2 opl_place_kinds.ps opl_place_kinds.r) κs) →
      opl_place_reads.Post κs a r s → opl_place_reads.Post κs a r' s' → (r ≡ r') × (s.1.1.0.now ≡ s'.1.1.0.now)
  opl_place_agrees r r' s s' p q = agree p q

module _ (κs : Lfts 3) (a : ArgsD opl_ip_write.signature κs) where
  pub opl_ip_write_agrees : (r r' : ResD opl_ip_write.signature κs) (s s' : AtExit (ended_of 3 opl_ip_write_kinds.ps opl_ip_write_kinds.r) κs) →
      opl_ip_write_reads.Post κs a r s → opl_ip_write_reads.Post κs a r' s'
      → (r ≡ r') × (s.1.1.1.0.now ≡ s'.1.1.1.0.now) × (s.1.1.1.1.0.now ≡ s'.1.1.1.1.0.now)
  opl_ip_write_agrees r r' s s' p q =
      let e = agree p.0 q.0 in
      (e.0, ap (λ x. x.0) e.1, ap (λ x. x.1) e.1)

module _ (κs : Lfts 4) (a : ArgsD opl_ip_read.signature κs) where
  pub opl_ip_read_agrees : (r r' : ResD opl_ip_read.signature κs) (s s' : AtExit (ended_of 4 opl_ip_read_kinds.ps opl_ip_read_kinds.r) κs) →
      opl_ip_read_reads.Post κs a r s → opl_ip_read_reads.Post κs a r' s'
      → (r ≡ r') × (s.1.0.now ≡ s'.1.0.now) × (s.1.1.0.now ≡ s'.1.1.0.now) × (s.1.1.1.0.now ≡ s'.1.1.1.0.now)
  opl_ip_read_agrees r r' s s' p q =
      let e = agree p q in
      (e.0, ap (λ x. x.0) e.1, ap (λ x. x.1) e.1, ap (λ x. x.2) e.1)

module _ (κs : Lfts 1) (a : ArgsD opl_ip_lost.signature κs) where
  pub opl_ip_lost_agrees : (r r' : ResD opl_ip_lost.signature κs) (s s' : AtExit (ended_of 1 opl_ip_lost_kinds.ps opl_ip_lost_kinds.r) κs) →
      opl_ip_lost_reads.Post κs a r s → opl_ip_lost_reads.Post κs a r' s' → (r ≡ r') × (s.0.now ≡ s'.0.now)
  opl_ip_lost_agrees r r' s s' p q = agree p q

module _ (κs : Lfts 2) (a : ArgsD opl_mix.signature κs) where
  pub opl_mix_agrees : (r r' : ResD opl_mix.signature κs) (s s' : AtExit (ended_of 2 opl_mix_kinds.ps opl_mix_kinds.r) κs) →
      opl_mix_reads.Post κs a r s → opl_mix_reads.Post κs a r' s' → (r ≡ r') × (s.1.1.0.now ≡ s'.1.1.0.now)
  opl_mix_agrees r r' s s' p q = agree p q

module _ (κs : Lfts 2) (a : ArgsD opl_profile.signature κs) where
  pub opl_profile_agrees : (r r' : ResD opl_profile.signature κs) (s s' : AtExit (ended_of 2 opl_profile_kinds.ps opl_profile_kinds.r) κs) →
      opl_profile_reads.Post κs a r s → opl_profile_reads.Post κs a r' s' → (r ≡ r') × (s.1.0.now ≡ s'.1.0.now)
  opl_profile_agrees r r' s s' p q = agree p q

module _ (κs : Lfts 4) (a : ArgsD opl_pipe.signature κs) where
  pub opl_pipe_agrees : (r r' : ResD opl_pipe.signature κs) (s s' : AtExit (ended_of 4 opl_pipe_kinds.ps opl_pipe_kinds.r) κs) →
      opl_pipe_reads.Post κs a r s → opl_pipe_reads.Post κs a r' s' → (r ≡ r') × (s.1.1.1.0.now ≡ s'.1.1.1.0.now) × (s.1.1.1.1.0.now ≡ s'.1.1.1.1.0.now)
  opl_pipe_agrees r r' s s' p q = let e = agree p.0 q.0 in (e.0, ap (λ m. m.0) e.1, ap (λ m. m.1) e.1)
