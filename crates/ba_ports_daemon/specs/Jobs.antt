-- Believe: what is known of a job that was started.
use Rattle.ba_ports_daemon.specs.declared.jobs.Course.{Course}
use Rattle.ba_ports_daemon.specs.declared.jobs.Course.TheVariants as course

-- of a job that has run this is said of its end, and of one that runs this of its thread
abbrev pub OfCourse : {E H : Type 0} → (E → Type 0) → (H → Type 0) → Course E H → Type 0
OfCourse ran runs (course.Ran end) = ran end
OfCourse ran runs (course.Runs handle) = runs handle
