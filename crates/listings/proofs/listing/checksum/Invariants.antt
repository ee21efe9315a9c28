-- `listings::listing::checksum`: the sum stays below the prime.
use Rattle.std.proofs.Common.{◌<◌}
use Rattle.listings.proofs.listing.checksum.Given as goal

abbrev pub invariant-loop-byte : goal.invariant-loop-byte
invariant-loop-byte l = l.sum < 65521
