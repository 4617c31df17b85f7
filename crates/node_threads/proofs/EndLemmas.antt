-- Ends of one server more, and the jobs of a server's check.
use Rattle.std.proofs.Common.{◌≡◌, refl, ◌⊎◌, inl, inr, ℕ, zero, suc, ◌+◌, List, [], ◌∷◌, ◌++◌, length, map, Option}
use Rattle.std.proofs.Common.{Some, None, All, add-one, length-append, append_assoc, append-nil, sym, ◌∙◌, ap, arith}
use Rattle.std.specs.Prelude.{slice_get}
use Rattle.std.specs.Option.{option_map_or}
use Rattle.std.proofs.lemmas.List.{map-append}
use Rattle.std.proofs.lemmas.List.Elements.{All-append}
use Rattle.fc_base.specs.Counted.{numbers_below}
use Rattle.cells.specs.ServerCells.{ServerLog}
use Rattle.server_core.specs.Answers.{job_of_check}
use Rattle.server_core.specs.Check.{Check}
use Rattle.client_core.specs.declared.received.Received.{Received}
use Rattle.node_threads.specs.declared.ends.CheckEnd.{CheckEnd}
use Rattle.node_threads.specs.Ends.{AddsEnds, AreEnds, Checks, IsEnd, IsAt, IsEndAt, jobs_of, jobs_by_server, place_of}

-- The jobs of one server more stand behind those of the others.
jobs_more : (first : ℕ) (counts : List ℕ) (server count : ℕ) → server ≡ first + length counts
    → jobs_by_server first (counts ++ count ∷ []) ≡ jobs_by_server first counts ++ jobs_of server count
jobs_more first [] server count is =
    let same : first ≡ server = omega (arith, is) in
    rw same (append-nil (jobs_of server count))
jobs_more first (c ∷ cs) server count is =
    ap (λ (l : List (ℕ × ℕ)). jobs_of first c ++ l) (jobs_more (first + 1) cs server count (omega (arith, is)))
    ∙ sym (append_assoc (jobs_of first c) (jobs_by_server (first + 1) cs) (jobs_of server count))

-- One count more stands behind the others.
count_at : (counts : List ℕ) (count server c : ℕ) → slice_get (counts ++ count ∷ []) server ≡ Some c
    → (slice_get counts server ≡ Some c) ⊎ ((server ≡ length counts) × (c ≡ count))
count_at [] count zero c e = inr (refl, cc)
count_at [] count (suc server) c e = absurd (cc)
count_at (x ∷ xs) count zero c e = inl e
count_at (x ∷ xs) count (suc server) c e = behind (count_at xs count server c e)
  where
    behind : (slice_get xs server ≡ Some c) ⊎ ((server ≡ length xs) × (c ≡ count))
        → (slice_get xs server ≡ Some c) ⊎ ((suc server ≡ suc (length xs)) × (c ≡ count))
    behind (inl h) = inl h
    behind (inr p) = inr (ap suc p.0, p.1)

-- Each server of one more has the jobs of its check.
checks_more : (cells : List ServerLog) (attempt servers server count c : ℕ) (counts : List ℕ) → length counts ≡ servers
    → IsAt cells servers (Checks attempt count) → ((slice_get counts server ≡ Some c) → IsAt cells server (Checks attempt c))
    → (slice_get counts server ≡ Some c) ⊎ ((server ≡ length counts) × (c ≡ count)) → IsAt cells server (Checks attempt c)
checks_more cells attempt servers server count c counts long last others (inl h) = others h
checks_more cells attempt servers server count c counts long last others (inr p) = rw (p.0 ∙ long, p.1) last

-- With the ends of the next server, they are those of one server more.
pub ends_more : (cells : List ServerLog) (came : List Received) (attempt servers : ℕ) (before after : List CheckEnd)
    → AddsEnds cells came attempt servers before after → AreEnds cells came attempt servers before → AreEnds cells came attempt (servers + 1) after
ends_more cells came attempt servers before after adds are = record {
  counts = are.counts ++ adds.count ∷ [];
  servers_are = omega (arith, length-append are.counts (adds.count ∷ []), are.servers_are);
  jobs_are = λ server c e. checks_more cells attempt servers server adds.count c are.counts are.servers_are adds.jobs_are (are.jobs_are server c)
      (count_at are.counts adds.count server c e);
  places = adds.places ∙ ap (λ (l : List (ℕ × ℕ)). l ++ jobs_of servers adds.count) are.places
      ∙ sym (jobs_more 0 are.counts servers adds.count (omega (arith, are.servers_are)));
  ends_are = adds.ends_are are.ends_are;
}

-- The next job stands behind the others of its server.
job_more : (number job : ℕ) → jobs_of number (job + 1) ≡ jobs_of number job ++ (number, job) ∷ []
job_more number job =
    let at : ℕ → ℕ × ℕ = λ j. (number, j) in
    ap (jobs_of number) (add-one job) ∙ map-append at (numbers_below job) (job ∷ [])

-- With the end of the next job, there are those of one job more.
pub places_more : (number job : ℕ) (first before after : List CheckEnd) (end : CheckEnd) → after ≡ before ++ end ∷ [] → place_of end ≡ (number, job)
    → map place_of before ≡ map place_of first ++ jobs_of number job → map place_of after ≡ map place_of first ++ jobs_of number (job + 1)
places_more number job first before after end is place places =
    ap (λ (ends : List CheckEnd). map place_of ends) is
    ∙ map-append place_of before (end ∷ [])
    ∙ ap (λ (l : List (ℕ × ℕ)). l ++ place_of end ∷ []) places
    ∙ append_assoc (map place_of first) (jobs_of number job) (place_of end ∷ [])
    ∙ ap (λ p. map place_of first ++ (jobs_of number job ++ p ∷ [])) place
    ∙ ap (λ (l : List (ℕ × ℕ)). map place_of first ++ l) (sym (job_more number job))

-- One end more is that of its job, as those before are.
pub end_more : (cells : List ServerLog) (came : List Received) (attempt : ℕ) (cell : ServerLog) (before : List CheckEnd) (end : CheckEnd)
    → slice_get cells end.server ≡ Some cell → IsEndAt cell came attempt end → All (IsEnd cells came attempt) before
    → All (IsEnd cells came attempt) (before ++ end ∷ [])
end_more cells came attempt cell before end at is all =
    All-append (IsEnd cells came attempt) before (end ∷ []) all (λ k d low. (let first : k ≡ 0 = omega (arith, low) in rw first (cell, at, is)))

job_in : (c : Option Check) (j : ℕ) → job_of_check c j ≡ slice_get (option_map_or (λ c. c.jobs) c []) j
job_in None j = refl
job_in (Some c) j = refl

-- Of no server there are no ends.
pub no_ends : (cells : List ServerLog) (came : List Received) (attempt : ℕ) → AreEnds cells came attempt 0 []
no_ends cells came attempt = record {
  counts = [];
  servers_are = refl;
  jobs_are = λ server c e. absurd (cc);
  places = refl;
  ends_are = λ k d low. absurd (omega (arith, low));
}
