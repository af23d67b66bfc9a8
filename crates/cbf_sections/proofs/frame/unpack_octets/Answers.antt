-- What is unpacked of the octets in the file is what is unpacked of the section's.
use Rattle.cbf_sections.proofs.SectionCallsLaws.{part-taken, frame-binary}
use Rattle.cbf_sections.proofs.frame.unpack_octets.Goals as goal

pub returns-in-Binary-clause-answer : goal.returns-in-Binary-clause-answer
returns-in-Binary-clause-answer c p f = rw (← (part-taken (frame-binary f c.in-Binary.is))) c.unpack.ensures.answer

pub returns-in-Binary-clause-output : goal.returns-in-Binary-clause-output
returns-in-Binary-clause-output c p f = rw (← (part-taken (frame-binary f c.in-Binary.is))) c.unpack.ensures.output
