-- Request 101's third theorem: what the entries answer in numbers, to C and to Rust, is what the library's call answers. Proved in
-- proofs/Entries.antt.
use Rattle.std.specs.Prelude.{Option, None, Some, Result, Ok, Err, ◌≡◌, Bool, true, false, cond, ◌||◌, [], ℕ}
use Rattle.refusals.specs.declared.Refusal.{Refusal}
use Rattle.refusals.specs.Refusal.{number_of}
use Rattle.vanilla_caller.specs.declared.VanillaConsensusRead.{VanillaConsensusRead}
use Rattle.duplex_kind.specs.Absent.{seen_of}
use Rattle.duplex_kind.specs.Kind.{Strand, given_of}
use Rattle.molecule_strand.specs.Strand.{StrandBytes, strand_of}
use Rattle.molecule_consensus.specs.Bytes.{broken}
use Rattle.duplex_reason.specs.Record.{reason_of}
use Rattle.duplex_reason.specs.declared.NoCallReason.{NoCallReason}
use Rattle.rust_reason.specs.ReadBack.{named}
use Rattle.rust_reason.specs.Reply.{reason_for, entry_reason}
use Rattle.rust_reason.specs.declared.Reason.{Reason}
use Rattle.c_reason.specs.Reason.{bytes_reason}

-- A strand as far as it is looked at: nothing of one that is not there, and evidence only with an annotation.
abbrev pub looked_at : Strand → Strand
looked_at s = cond s.present (seen_of s) (given_of None)

-- The call `no_call_reason` and what it answered, by its contract: it was lent two strands, which are these as far as they are looked at.
pub record Asked (a b : Strand) (i : ℕ) (answer : Result NoCallReason Refusal) : Type 0 where
  pub lent_a : Option VanillaConsensusRead
  pub lent_b : Option VanillaConsensusRead
  pub same_a : looked_at a ≡ given_of lent_a
  pub same_b : looked_at b ≡ given_of lent_b
  pub call : answer ≡ reason_of (given_of lent_a) (given_of lent_b) i

-- Two numbers say an answer: the refusal's number and no case, or no refusal and the number that names the case.
abbrev pub Says : Reason → Result NoCallReason Refusal → Type 0
Says reply (Err row) = (reply.refused ≡ number_of row) × (reply.reason ≡ 0)
Says reply (Ok reason) = (reply.refused ≡ 0) × (named reply.reason ≡ Some reason)

-- An entry's reply, by its contract, says what the call answers on the strands that it is given: `gedrashiw_no_call_reason` on those that
-- bytes stand for, `gedrashiw_no_call_reason_typed` on those that are numbers already. `wrong` is that a pattern or an annotation stands for
-- nothing: there, and at a byte count that fits no number, the reply is 13, which the call does not have. (The archive's exports have
-- these contracts, word for word.)
pub record SameAnswer : Type 0 where
  pub from_bytes :
      (wrong : Bool) (a b : StrandBytes) (i : ℕ) (reply : Reason) (answer : Result NoCallReason Refusal)
      → reply ≡ reason_for (bytes_reason wrong a b i)
      → (wrong || broken a b false []) ≡ false
      → Asked (strand_of a) (strand_of b) i answer
      → Says reply answer
  pub from_numbers :
      (wrong : Bool) (a b : Strand) (i : ℕ) (reply : Reason) (answer : Result NoCallReason Refusal)
      → reply ≡ reason_for (entry_reason wrong a b i)
      → wrong ≡ false
      → Asked a b i answer
      → Says reply answer
  pub broken_bytes :
      (wrong : Bool) (a b : StrandBytes) (i : ℕ) (reply : Reason)
      → reply ≡ reason_for (bytes_reason wrong a b i)
      → (wrong || broken a b false []) ≡ true
      → reply ≡ record { refused = 13; reason = 0 }
  pub wrong_numbers :
      (wrong : Bool) (a b : Strand) (i : ℕ) (reply : Reason)
      → reply ≡ reason_for (entry_reason wrong a b i)
      → wrong ≡ true
      → reply ≡ record { refused = 13; reason = 0 }
