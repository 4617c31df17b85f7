-- The text of each Jobs that was sent is seen, and so are the run and the text of each Verify.
use Rattle.std.proofs.Common.{◌≡◌, refl, sym, subst, inl, inr, ℕ, ◌≤◌, Bool, true, false, List, [], ◌∷◌, ◌++◌}
use Rattle.std.proofs.Common.{Some}
use Rattle.std.specs.Prelude.{if◌then◌else◌, Contains}
use Rattle.std.proofs.lemmas.List.Elements.{Contains-append_left, Contains-append_right, Contains-append_cases}
use Rattle.fc_base.specs.declared.limits.TheConstants.{MAX_SERVERS}
use Rattle.fc_base.proofs.ListLemmas.{all_append, all_where, all_weaker, each_of, none_in}
use Rattle.messages.specs.declared.body.Body.{Body}
use Rattle.messages.specs.declared.body.Body.TheVariants as bodies
use Rattle.messages.specs.declared.packet.PacketParts.{PacketParts}
use Rattle.messages.specs.Bodies.{kind_of}
use Rattle.messages.specs.Kinds.{is_of_server, is_of_mirror}
use Rattle.client_core.specs.History.{Opening, Entry, Met, Cut, Restart, Renew, Lose}
use Rattle.client_core.specs.Words.{words_noted, peers, is_answered}
use Rattle.client_core.specs.Life.{Deed, Begins, Verifies, deeds_of, deeds_done}
use Rattle.client_core.specs.Life.{life}
use Rattle.client_core.specs.Packets as clients
use Rattle.client_core.specs.Packets.{packets_for}
use Rattle.net_world.specs.Setup.{Setup}
use Rattle.net_world.specs.Happenings.{Happening}
use Rattle.net_world.specs.Trace.{Step, AtServer, AtClient, AtMirror, of_server, of_client, of_mirror, opening_of, client_opening, mirror_opening}
use Rattle.net_world.specs.Trace.{packets_of, sent_packets}
use Rattle.net_world.specs.Changes.{trace}
use Rattle.net_world.specs.World.{world}
use Rattle.net_world.proofs.MirrorLemmas.{sent_by_mirror}
use Rattle.net_world.proofs.TraceLemmas.{sent_cases, sent_none}
use Rattle.seen.specs.Texts.{text_of, asked_of}
use Rattle.seen.specs.Watching.{observations}
use Rattle.seen.proofs.ClientLemmas.{TextLaws, client_at, all_done}
use Rattle.seen.proofs.BeginLemmas.{begun_is_seen, attempt_is_seen}
use Rattle.seen.proofs.AskedLemmas.{Carries, AllCarry, AreIn, call_carries}

done_more : (o : Opening) (x : Entry) (past : List Entry) → AreIn (deeds_done o past) (deeds_done o (x ∷ past))
done_more o (Met c left) past d h = added (is_answered o past c left) (deeds_of (words_noted o past) c)
  where
    added : (b : Bool) (xs : List Deed) → Contains (if b then xs ++ deeds_done o past else deeds_done o past) d
    added true xs = Contains-append_right xs (deeds_done o past) d h
    added false xs = h
done_more o Cut past d h = h
done_more o (Restart mirror) past d h = h
done_more o (Renew g left) past d h = h
done_more o Lose past d h = h

-- What was done in this life was done.
life_is_done : (o : Opening) (past : List Entry) → AreIn (life o past) (deeds_done o past)
life_is_done o [] d h = h
life_is_done o (Met c left ∷ past) d h =
    chosen (is_answered o past c left) (deeds_of (words_noted o past) c) (life o past) (deeds_done o past) (life_is_done o past d) h
  where
    chosen : (b : Bool) (xs ys zs : List Deed) → (Contains ys d → Contains zs d) → Contains (if b then xs ++ ys else ys) d
        → Contains (if b then xs ++ zs else zs) d
    chosen true xs ys zs f k = elim (Contains-append_cases xs ys d k) [
      | inl i ↦ Contains-append_left xs zs d i
      | inr i ↦ Contains-append_right xs zs d (f i)
    ]
    chosen false xs ys zs f k = f k
life_is_done o (Cut ∷ past) d h = absurd (none_in d h)
life_is_done o (Restart mirror ∷ past) d h = absurd (none_in d h)
life_is_done o (Renew g left ∷ past) d h = absurd (none_in d h)
life_is_done o (Lose ∷ past) d h = absurd (none_in d h)

-- What an answered call does is done.
now_is_done : (b : Bool) (xs ys : List Deed) → b ≡ true → AreIn xs (if b then xs ++ ys else ys)
now_is_done true xs ys is d h = Contains-append_left xs ys d h
now_is_done false xs ys is d h = absurd cc

carries_more : (all more : List Deed) (body : Body) → AreIn all more → Carries all body → Carries more body
carries_more all more (bodies.Jobs run text) f h = f (Begins run text) h
carries_more all more (bodies.Verify run attempt text) f h = f (Verifies run attempt text) h
carries_more all more _ f h = tt

carries_now : (o : Opening) (past : List Entry) (x : Entry) → AllCarry (deeds_done o (x ∷ past)) (clients.packets o past x)
carries_now o past (Met c left) =
    let all = deeds_done o (Met c left ∷ past) in
    all_where (λ p. Carries all p.body) (is_answered o past c left) (packets_for (peers o past) (words_noted o past) (life o past) c)
    (λ is. call_carries all (life o past) (peers o past) (words_noted o past) c
    (now_is_done (is_answered o past c left) (deeds_of (words_noted o past) c) (deeds_done o past) is)
    (λ d h. done_more o (Met c left) past d (life_is_done o past d h)))
carries_now o past Cut = tt
carries_now o past (Restart mirror) = tt
carries_now o past (Renew g left) = tt
carries_now o past Lose = tt

-- Each packet that the client has sent is of what it has done.
all_carry : (o : Opening) (list : List Entry) → AllCarry (deeds_done o list) (clients.sent_packets o list)
all_carry o [] = tt
all_carry o (x ∷ past) =
    all_append (λ p. Carries (deeds_done o (x ∷ past)) p.body) (clients.sent_packets o past) (clients.packets o past x)
    (all_weaker (λ p. Carries (deeds_done o past) p.body) (λ p. Carries (deeds_done o (x ∷ past)) p.body) (clients.sent_packets o past)
    (λ p h. carries_more (deeds_done o past) (deeds_done o (x ∷ past)) p.body (done_more o x past) h) (all_carry o past))
    (carries_now o past x)

-- ---- who sent it

-- The client has sent it.
abbrev BySelf : Setup → List Step → PacketParts → Type 0
BySelf w t p = Contains (clients.sent_packets (client_opening w) (of_client w t)) p

-- No server sends it, nor does the mirror.
abbrev IsOfClient : Body → Type 0
IsOfClient body = (is_of_server (kind_of body) ≡ false) × (is_of_mirror (kind_of body) ≡ false)

sent_before : (w : Setup) (step : Step) (past : List Step) (p : PacketParts) → BySelf w past p → BySelf w (step ∷ past) p
sent_before w (AtServer s x) past p h = h
sent_before w (AtMirror x) past p h = h
sent_before w (AtClient x) past p h =
    Contains-append_left (clients.sent_packets (client_opening w) (of_client w past)) (clients.packets (client_opening w) (of_client w past) x) p h

not_both : (b : Bool) → b ≡ true → b ≡ false → ⊥
not_both true h k = absurd cc
not_both false h k = absurd cc

sent_now : TextLaws → (w : Setup) (step : Step) (past : List Step) (p : PacketParts) → IsOfClient p.body → Contains (packets_of w past step) p
    → BySelf w (step ∷ past) p
sent_now laws w (AtServer s x) past p own h = absurd (not_both (is_of_server (kind_of p.body)) (laws.goes (opening_of s) (of_server s past) x p h).kind own.0)
sent_now laws w (AtMirror x) past p own h =
    absurd (not_both (is_of_mirror (kind_of p.body)) (sent_by_mirror laws.over mirror_opening (of_mirror past) x p h).2 own.1)
sent_now laws w (AtClient x) past p own h =
    Contains-append_right (clients.sent_packets (client_opening w) (of_client w past)) (clients.packets (client_opening w) (of_client w past) x) p h

client_sent : TextLaws → (w : Setup) (t : List Step) (p : PacketParts) → IsOfClient p.body → Contains (sent_packets w t) p → BySelf w t p
client_sent laws w [] p own h = absurd (sent_none w p h)
client_sent laws w (step ∷ past) p own h = elim (sent_cases w step past p h) [
  | inl before ↦ sent_before w step past p (client_sent laws w past p own before)
  | inr now ↦ sent_now laws w step past p own now
]

-- A packet that only clients send is of what the client has done.
sent_was_done : TextLaws → (w : Setup) (evs : List Happening) (p : PacketParts) (body : Body) → Contains (sent_packets w (trace w (world w evs))) p
    → p.body ≡ body → IsOfClient body → Carries (all_done w evs) body
sent_was_done laws w evs p body h is own =
    let o = client_opening w in
    let list = client_at w evs in
    let mine = client_sent laws w (trace w (world w evs)) p (subst IsOfClient (sym is) own) h in
    subst (Carries (deeds_done o list)) is (each_of (λ x. Carries (deeds_done o list) x.body) (clients.sent_packets o list) p (all_carry o list) mine)

-- The job file of each Jobs packet is seen to be that of its run.
pub text_is_seen : TextLaws → (w : Setup) (events : List Happening) → w.servers ≤ MAX_SERVERS → (p : PacketParts) (run : ℕ) (text : List ℕ)
    → Contains (sent_packets w (trace w (world w events))) p → p.body ≡ bodies.Jobs run text → text_of run (observations w events) ≡ Some text
text_is_seen laws w events few p run text h is =
    begun_is_seen laws w events few run text (sent_was_done laws w events p (bodies.Jobs run text) h is (refl, refl))

-- The run and the job file of each Verify packet are seen to be those of its attempt.
pub asked_is_seen : TextLaws → (w : Setup) (events : List Happening) → w.servers ≤ MAX_SERVERS → (p : PacketParts) (run attempt : ℕ) (text : List ℕ)
    → Contains (sent_packets w (trace w (world w events))) p → p.body ≡ bodies.Verify run attempt text
    → asked_of attempt (observations w events) ≡ Some (record { run = run; text = text })
asked_is_seen laws w events few p run attempt text h is =
    attempt_is_seen laws w events few run attempt text (sent_was_done laws w events p (bodies.Verify run attempt text) h is (refl, refl))
