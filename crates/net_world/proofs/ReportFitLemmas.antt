-- Each report of a world is one, and a server that is there has a number below 8.
use Rattle.std.proofs.Common.{◌≡◌, refl, ℕ, ◌<◌, ◌≤◌, arith, Bool, true, false, ◌&&◌, List, Option, Some, None}
use Rattle.std.specs.Prelude.{if◌then◌else◌, slice_get, nat_lt, nat_le, not, IsTrue, is_some}
use Rattle.std.specs.Option.{option_or}
use Rattle.std.proofs.lemmas.Bool.{and_parts}
use Rattle.std.proofs.lemmas.Bool.Decides.{nat_tests}
use Rattle.std.proofs.lemmas.Option.{slice_get_within, get_or_from_slice_get}
use Rattle.fc_base.specs.declared.fault.Fault.{Fault}
use Rattle.fc_base.specs.declared.fault.Fault.TheVariants.{NoServer, NodeOff, NodeOn, NoWrite}
use Rattle.fc_base.specs.declared.limits.TheConstants.{MAX_BLOCKS, MAX_SERVERS, MAX_WRITES}
use Rattle.fc_base.specs.JobParts.{has_block_size, has_region, has_queue, has_pattern, is_within_limits}
use Rattle.fc_base.specs.declared.record.JobParts.{JobParts}
use Rattle.job_file.specs.declared.job.Job.{Job}
use Rattle.disk_model.specs.File.{block_bytes}
use Rattle.fc_base.proofs.ListLemmas.{each_of}
use Rattle.recheck.specs.Expected.{expected_by}
use Rattle.recheck.specs.Fits.{ReportsFit}
use Rattle.messages.specs.declared.node.Node.TheVariants.{Server}
use Rattle.server_core.specs.Inputs.{PacketInput}
use Rattle.server_core.specs.History as server
use Rattle.server_core.specs.Check.{Check, Progress, Wanting, Full, With, Refused, Done as Made, check, progress_after}
use Rattle.server_core.specs.Laws.{ChecksHaveSets}
use Rattle.net_world.specs.Setup.{Setup}
use Rattle.net_world.specs.Trace.{Step, opening_of}
use Rattle.net_world.specs.InRange.{ReportFits}
use Rattle.net_world.specs.Writes.{open_at}
use Rattle.net_world.specs.Checks.{key_of, report_by, report_for, check_end, end_of_check_in}
use Rattle.net_world.specs.Barred.{unless, is_on, unless_on, unless_off, unless_open}

below : (w : Setup) (s : ℕ) (b : Bool) → nat_lt s w.servers ≡ b → (x : Option Fault) → option_or (if b then None else Some NoServer) x ≡ None
    → w.servers ≤ MAX_SERVERS → s < MAX_SERVERS
below w s true e x h l = grind (arith, nat_tests)
below w s false e x h l = absurd cc

pub server_there : (w : Setup) (t : List Step) (s : ℕ) → w.servers ≤ MAX_SERVERS → unless_on w t (Server s) ≡ None → s < MAX_SERVERS
server_there w t s l h = below w s (nat_lt s w.servers) refl (unless (is_on w t (Server s)) NodeOff) h l

pub server_off : (w : Setup) (t : List Step) (s : ℕ) → w.servers ≤ MAX_SERVERS → unless_off w t (Server s) ≡ None → s < MAX_SERVERS
server_off w t s l h = below w s (nat_lt s w.servers) refl (unless (not (is_on w t (Server s))) NodeOn) h l

first_none : (x y : Option Fault) → option_or x y ≡ None → x ≡ None
first_none None y h = refl
first_none (Some fault) y h = absurd cc

pub write_there : (w : Setup) (t : List Step) (s j k : ℕ) → w.servers ≤ MAX_SERVERS → unless_open w t s j k ≡ None → s < MAX_SERVERS
write_there w t s j k l h = server_there w t s l (first_none (unless_on w t (Server s)) (unless (is_some (open_at t s j k)) NoWrite) h)

-- ---- reports

few_blocks : (job : JobParts) → is_within_limits job ≡ true → job.blocks ≤ MAX_BLOCKS
few_blocks job limits =
    let all = and_parts (has_block_size job && has_region job && has_queue job) (has_pattern job) limits in
    let three = and_parts (has_block_size job && has_region job) (has_queue job) all.0 in
    let two = and_parts (has_block_size job) (has_region job) three.0 in
    let blocks = and_parts (nat_le 1 job.blocks && nat_le job.blocks MAX_BLOCKS) (nat_le 1 job.total && nat_le job.total MAX_WRITES) two.1 in
    le job.blocks MAX_BLOCKS (and_parts (nat_le 1 job.blocks) (nat_le job.blocks MAX_BLOCKS) blocks.0).1
  where
    le : (a b : ℕ) → nat_le a b ≡ true → a ≤ b
    le a b h = grind (arith, nat_tests)

unfoldable pub SomeEnd : Option PacketInput → Type 0
SomeEnd None = Unit {0}
SomeEnd (Some e) = ReportFits e

fit_report : ReportsFit → (c : Check) (j : ℕ) (job : Job) (held : ℕ → List ℕ) (p : Progress) → job.rec.blocks ≤ MAX_BLOCKS
    → SomeEnd (check_end c j (report_by c j job p held))
unfolding SomeEnd
fit_report law c j job held Wanting l = tt
fit_report law c j job held Full l = law job.fatal (expected_by (key_of c j) job.rec None) (λ block. block_bytes held job.rec.bs block) job.rec.blocks l
fit_report law c j job held (With state) l =
    law job.fatal (expected_by (key_of c j) job.rec (Some state)) (λ block. block_bytes held job.rec.bs block) job.rec.blocks l
fit_report law c j job held (Refused value) l = tt
fit_report law c j job held (Made r) l = tt

fit_for : ReportsFit → (c : Check) (j : ℕ) (held : ℕ → List ℕ) (x : Option Job) → ((job : Job) → x ≡ Some job → job.rec.blocks ≤ MAX_BLOCKS)
    → SomeEnd (check_end c j (report_for c j x held))
unfolding SomeEnd
fit_for law c j held None f = tt
fit_for law c j held (Some job) f = fit_report law c j job held (progress_after c j job c.since) (f job refl)

pub fit_end : ReportsFit → ChecksHaveSets → (s : ℕ) (list : List server.Entry) (j : ℕ) (held : ℕ → List ℕ) (x : Option Check) → check (opening_of s) list ≡ x
    → SomeEnd (end_of_check_in x j held)
unfolding SomeEnd
fit_end law sets s list j held None is = tt
fit_end law sets s list j held (Some c) is =
    fit_for law c j held (slice_get c.jobs j)
    (λ job h. few_blocks job.rec (each_of (λ (x : Job). IsTrue (is_within_limits x.rec)) c.jobs job (sets (opening_of s) list c is).within.within
    (j, slice_get_within c.jobs j job h, get_or_from_slice_get c.jobs j job job h)))
