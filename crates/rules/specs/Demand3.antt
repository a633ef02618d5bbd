-- Demand 3: over any order of calls no budget leaks. Read from the top: the ledger's heads, what each call adds to them,
-- that each head is what the answers say, what any list of calls adds up to, and the sentences that the customer wrote; then
-- that virtual time is exact but for one rounding, which leaves a plan leaves active, which tree is in force, and that a trace's
-- run is such a list.
pub mod Heads
pub mod Sentences
pub mod Times
pub mod Plans
pub mod Trees
pub mod Traces
