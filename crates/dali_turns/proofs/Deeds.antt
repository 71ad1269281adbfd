-- Laws of dali_deeds.
pub use Rattle.dali_transcripts.proofs.TellingLemmas.Steps.{step_tells}
pub use Rattle.dali_transcripts.proofs.TellingLemmas.Courses.{meets_tells, course_tells, goes_on, stop_is_told}
