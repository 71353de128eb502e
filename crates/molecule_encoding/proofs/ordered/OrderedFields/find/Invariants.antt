-- What the loop keeps: the search from the bytes left on is the whole search.
use lib.ListN.{length}
use Rattle.molecule_encoding.proofs.Values.{Searching}
use Rattle.molecule_encoding.proofs.ordered.OrderedFields.find.Given as goal

abbrev pub invariant-loop-f : goal.invariant-loop-f
invariant-loop-f l = Searching l.self.bytes.now l.tag l.rest

abbrev pub decreases-loop-f : goal.decreases-loop-f
decreases-loop-f l = length l.rest
