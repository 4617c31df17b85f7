-- Which packet a request to a server comes in.
use Rattle.std.proofs.Common.{◌≡◌, refl, ℕ, Bool, true, false, ◌&&◌, List}
use Rattle.std.specs.Prelude.{if◌then◌else◌}
use Rattle.std.proofs.lemmas.Bool.{and_parts}
use Rattle.verify_state.specs.State.{State}
use Rattle.messages.specs.Nodes.{is_client, is_server}
use Rattle.messages.specs.declared.body.Body.{Body}
use Rattle.messages.specs.declared.body.Body.TheVariants as bodies
use Rattle.messages.specs.declared.packet.PacketParts.{PacketParts}
use Rattle.server_core.specs.declared.input.Input.TheVariants as inputs
use Rattle.server_core.specs.Request.{ToStage, ToMark, ToVerify, ToHold, ToPassFully, ToNobody, request_in, request_of}
use Rattle.net_world.proofs.TraceLemmas.{same_packet}
use Rattle.seen.specs.Sightings.{to_server}
use Rattle.seen.proofs.ServerLemmas.{packet_is, client_is, server_is}

jobs_in_body : (b : Body) (r : ℕ) (x : List ℕ) → request_in b ≡ ToStage r x → b ≡ bodies.Jobs r x
jobs_in_body (bodies.Jobs q text) r x h = cc
jobs_in_body (bodies.JobsOk q n) r x h = absurd cc
jobs_in_body (bodies.Start q) r x h = absurd cc
jobs_in_body (bodies.Started q) r x h = absurd cc
jobs_in_body (bodies.Trigger q act) r x h = absurd cc
jobs_in_body (bodies.State n state) r x h = absurd cc
jobs_in_body (bodies.NoState q job n) r x h = absurd cc
jobs_in_body (bodies.StateAck q job) r x h = absurd cc
jobs_in_body (bodies.Stop q) r x h = absurd cc
jobs_in_body (bodies.Stopped q) r x h = absurd cc
jobs_in_body (bodies.Verify q a text) r x h = absurd cc
jobs_in_body (bodies.WantState q a job) r x h = absurd cc
jobs_in_body (bodies.Saved a state) r x h = absurd cc
jobs_in_body (bodies.NoSaved q a job) r x h = absurd cc
jobs_in_body (bodies.Report q a job n report) r x h = absurd cc
jobs_in_body (bodies.Refused refusal) r x h = absurd cc
jobs_in_body (bodies.Copy state) r x h = absurd cc
jobs_in_body (bodies.CopyOk q server job) r x h = absurd cc
jobs_in_body (bodies.Fetch g) r x h = absurd cc
jobs_in_body (bodies.Granted g) r x h = absurd cc

verify_in_body : (b : Body) (r c : ℕ) (x : List ℕ) → request_in b ≡ ToVerify r c x → b ≡ bodies.Verify r c x
verify_in_body (bodies.Jobs q text) r c x h = absurd cc
verify_in_body (bodies.JobsOk q n) r c x h = absurd cc
verify_in_body (bodies.Start q) r c x h = absurd cc
verify_in_body (bodies.Started q) r c x h = absurd cc
verify_in_body (bodies.Trigger q act) r c x h = absurd cc
verify_in_body (bodies.State n state) r c x h = absurd cc
verify_in_body (bodies.NoState q job n) r c x h = absurd cc
verify_in_body (bodies.StateAck q job) r c x h = absurd cc
verify_in_body (bodies.Stop q) r c x h = absurd cc
verify_in_body (bodies.Stopped q) r c x h = absurd cc
verify_in_body (bodies.Verify q a text) r c x h = cc
verify_in_body (bodies.WantState q a job) r c x h = absurd cc
verify_in_body (bodies.Saved a state) r c x h = absurd cc
verify_in_body (bodies.NoSaved q a job) r c x h = absurd cc
verify_in_body (bodies.Report q a job n report) r c x h = absurd cc
verify_in_body (bodies.Refused refusal) r c x h = absurd cc
verify_in_body (bodies.Copy state) r c x h = absurd cc
verify_in_body (bodies.CopyOk q server job) r c x h = absurd cc
verify_in_body (bodies.Fetch g) r c x h = absurd cc
verify_in_body (bodies.Granted g) r c x h = absurd cc

saved_in_body : (b : Body) (c : ℕ) (x : State) → request_in b ≡ ToHold c x → b ≡ bodies.Saved c x
saved_in_body (bodies.Jobs q text) c x h = absurd cc
saved_in_body (bodies.JobsOk q n) c x h = absurd cc
saved_in_body (bodies.Start q) c x h = absurd cc
saved_in_body (bodies.Started q) c x h = absurd cc
saved_in_body (bodies.Trigger q act) c x h = absurd cc
saved_in_body (bodies.State n state) c x h = absurd cc
saved_in_body (bodies.NoState q job n) c x h = absurd cc
saved_in_body (bodies.StateAck q job) c x h = absurd cc
saved_in_body (bodies.Stop q) c x h = absurd cc
saved_in_body (bodies.Stopped q) c x h = absurd cc
saved_in_body (bodies.Verify q a text) c x h = absurd cc
saved_in_body (bodies.WantState q a job) c x h = absurd cc
saved_in_body (bodies.Saved a state) c x h = cc
saved_in_body (bodies.NoSaved q a job) c x h = absurd cc
saved_in_body (bodies.Report q a job n report) c x h = absurd cc
saved_in_body (bodies.Refused refusal) c x h = absurd cc
saved_in_body (bodies.Copy state) c x h = absurd cc
saved_in_body (bodies.CopyOk q server job) c x h = absurd cc
saved_in_body (bodies.Fetch g) c x h = absurd cc
saved_in_body (bodies.Granted g) c x h = absurd cc

ack_in_body : (b : Body) (r j : ℕ) → request_in b ≡ ToMark r j → b ≡ bodies.StateAck r j
ack_in_body (bodies.Jobs q text) r j h = absurd cc
ack_in_body (bodies.JobsOk q n) r j h = absurd cc
ack_in_body (bodies.Start q) r j h = absurd cc
ack_in_body (bodies.Started q) r j h = absurd cc
ack_in_body (bodies.Trigger q act) r j h = absurd cc
ack_in_body (bodies.State n state) r j h = absurd cc
ack_in_body (bodies.NoState q job n) r j h = absurd cc
ack_in_body (bodies.StateAck q job) r j h = cc
ack_in_body (bodies.Stop q) r j h = absurd cc
ack_in_body (bodies.Stopped q) r j h = absurd cc
ack_in_body (bodies.Verify q a text) r j h = absurd cc
ack_in_body (bodies.WantState q a job) r j h = absurd cc
ack_in_body (bodies.Saved a state) r j h = absurd cc
ack_in_body (bodies.NoSaved q a job) r j h = absurd cc
ack_in_body (bodies.Report q a job n report) r j h = absurd cc
ack_in_body (bodies.Refused refusal) r j h = absurd cc
ack_in_body (bodies.Copy state) r j h = absurd cc
ack_in_body (bodies.CopyOk q server job) r j h = absurd cc
ack_in_body (bodies.Fetch g) r j h = absurd cc
ack_in_body (bodies.Granted g) r j h = absurd cc

none_in_body : (b : Body) (c j : ℕ) → request_in b ≡ ToPassFully c j → (r : ℕ) × (b ≡ bodies.NoSaved r c j)
none_in_body (bodies.Jobs q text) c j h = absurd cc
none_in_body (bodies.JobsOk q n) c j h = absurd cc
none_in_body (bodies.Start q) c j h = absurd cc
none_in_body (bodies.Started q) c j h = absurd cc
none_in_body (bodies.Trigger q act) c j h = absurd cc
none_in_body (bodies.State n state) c j h = absurd cc
none_in_body (bodies.NoState q job n) c j h = absurd cc
none_in_body (bodies.StateAck q job) c j h = absurd cc
none_in_body (bodies.Stop q) c j h = absurd cc
none_in_body (bodies.Stopped q) c j h = absurd cc
none_in_body (bodies.Verify q a text) c j h = absurd cc
none_in_body (bodies.WantState q a job) c j h = absurd cc
none_in_body (bodies.Saved a state) c j h = absurd cc
none_in_body (bodies.NoSaved q a job) c j h = (q, cc)
none_in_body (bodies.Report q a job n report) c j h = absurd cc
none_in_body (bodies.Refused refusal) c j h = absurd cc
none_in_body (bodies.Copy state) c j h = absurd cc
none_in_body (bodies.CopyOk q server job) c j h = absurd cc
none_in_body (bodies.Fetch g) c j h = absurd cc
none_in_body (bodies.Granted g) c j h = absurd cc

pub asks_jobs : (me r : ℕ) (text : List ℕ) (p : PacketParts) → request_of me (inputs.Deliver p) ≡ ToStage r text → p ≡ to_server me (bodies.Jobs r text)
asks_jobs me r text p h =
    packet_is me p (is_client p.from && is_server me p.to) (bodies.Jobs r text) (ToStage r text) refl h (λ e. cc) (jobs_in_body p.body r text)

pub asks_verify : (me r a : ℕ) (text : List ℕ) (p : PacketParts) → request_of me (inputs.Deliver p) ≡ ToVerify r a text
    → p ≡ to_server me (bodies.Verify r a text)
asks_verify me r a text p h =
    packet_is me p (is_client p.from && is_server me p.to) (bodies.Verify r a text) (ToVerify r a text) refl h (λ e. cc) (verify_in_body p.body r a text)

pub asks_hold : (me a : ℕ) (state : State) (p : PacketParts) → request_of me (inputs.Deliver p) ≡ ToHold a state → p ≡ to_server me (bodies.Saved a state)
asks_hold me a state p h =
    packet_is me p (is_client p.from && is_server me p.to) (bodies.Saved a state) (ToHold a state) refl h (λ e. cc) (saved_in_body p.body a state)

pub asks_mark : (me r j : ℕ) (p : PacketParts) → request_of me (inputs.Deliver p) ≡ ToMark r j → p ≡ to_server me (bodies.StateAck r j)
asks_mark me r j p h =
    packet_is me p (is_client p.from && is_server me p.to) (bodies.StateAck r j) (ToMark r j) refl h (λ e. cc) (ack_in_body p.body r j)

asked_if : (me a j : ℕ) (p : PacketParts) (t : Bool) → (is_client p.from && is_server me p.to) ≡ t → (if t then request_in p.body else ToNobody) ≡ ToPassFully a j
    → (r : ℕ) × (p ≡ to_server me (bodies.NoSaved r a j))
asked_if me a j p true e h =
    let ends = and_parts (is_client p.from) (is_server me p.to) e in
    let b = none_in_body p.body a j h in
    (b.0, same_packet p (to_server me (bodies.NoSaved b.0 a j)) (client_is p.from ends.0) (server_is me p.to ends.1) b.1)
asked_if me a j p false e h = absurd cc

pub asks_full : (me a j : ℕ) (p : PacketParts) → request_of me (inputs.Deliver p) ≡ ToPassFully a j → (r : ℕ) × (p ≡ to_server me (bodies.NoSaved r a j))
asks_full me a j p h = asked_if me a j p (is_client p.from && is_server me p.to) refl h
