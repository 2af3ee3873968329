-- What the journal of a run is, and what is promised of it, in the order in which it reads best.
--
-- The case, the routes through its cubes, and two files of small words.
pub mod Setup
pub mod Network
pub mod Routes
pub mod Choice
pub mod Basics
-- What a journal says: of directions, of packets that are forwarded, of queues, links and hosts,
-- and of the machine that executes.
pub mod Directions
pub mod Piped
pub mod Queues
pub mod Links
pub mod Hosts
pub mod Serial
-- What a step sees of a journal, why it may wait, and the entry that it gives: the table of steps
-- is Next.
pub mod StepView
pub mod Waiting
pub mod Answers
pub mod LinkSteps
pub mod CubeSteps
pub mod ThroughSteps
pub mod Next
-- The lawful journals: each entry is the one that its step gives.
pub mod Lawful
-- Those of a case, step after step: which are left.
pub mod Left
-- What is promised of lawful journals: Guarantees has it all in one record, the other files its
-- parts, from the requests of each host to the final lines.
pub mod Filters
pub mod Carried
pub mod Delivered
pub mod Drained
-- How many packets are under way, and when a link is settled: the drain bound speaks of both.
pub mod UnderWay
pub mod Settled
pub mod Counts
pub mod Final
pub mod Report
pub mod Guarantees
-- What their queues hold, what is kept while a packet is forwarded, and that the text of a journal
-- shows it.
pub mod QueueInvariant
pub mod Forwarded
pub mod ParseJournals
