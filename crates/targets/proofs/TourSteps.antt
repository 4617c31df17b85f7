-- A tour, step by step, and how it ends.
use Rattle.std.proofs.Common.{◌≡◌, ◌≤◌, ◌+◌, ◌-◌, ◌^◌, ℕ, List, [], ◌∷◌, ◌++◌, length, length-append, map, take, Option, Some, None, IfSome}
use Rattle.std.proofs.Common.{append-nil, refl, sym, ap, ◌∙◌, subst, inl, inr, arith}
use Rattle.std.specs.Io.KnownBytes.{Appends, Consumes, IsAtEnd, Keeps}
use Rattle.std.proofs.KnownBytes.{Appends-kept, Appends-nil, Appends-trans, Consumes-nil, Consumes-trans}
use Rattle.std.proofs.lemmas.Grind.{flat_map-append}
use Rattle.std.proofs.lemmas.List.{take_at}
use Rattle.fc_base.specs.declared.fault.Fault.{Fault}
use Rattle.fc_base.specs.declared.fault.Fault.TheVariants as faults
use Rattle.fc_base.specs.declared.record.JobParts.{JobParts}
use Rattle.targets.specs.declared.tile.Tile.{Tile}
use Rattle.targets.specs.declared.tile.Tour.{Tour}
use Rattle.targets.specs.declared.tour.TourEnd.{TourEnd}
use Rattle.targets.specs.declared.tour.TourEnd.TheVariants.{Over, Refused}
use Rattle.targets.specs.declared.tour_word.TourWord.{TourWord}
use Rattle.targets.specs.declared.tour_word.TourWord.TheVariants.{Begin, Told}
use Rattle.targets.specs.TourWords.{word_bytes, words_bytes, Fits, begun, open_tiles}
use Rattle.targets.specs.Tours.{piece_bytes, Ends, RefusesWord, Tours}
use Rattle.targets.specs.Touring.{end_by, EndsUnread, SoFar, Stands, Steps}
use Rattle.targets.proofs.RunLemmas.{known_rest}

-- ---- a tour begins, and goes on

pub at_first : (number : ℕ) (job : JobParts) (tour : Tour) (input text : Option (List ℕ)) → Stands number job tour [] []
    → SoFar number job tour 0 input input text text
at_first number job tour input text stands = record {
  words = [];
  pieces = [];
  stands = stands;
  counted = refl;
  told = Consumes-nil input;
  written = Appends-nil text;
}

-- No more tiles were begun than words were read.
pub begun_few : (words : List TourWord) → begun words ≤ length words
begun_few [] = omega arith
begun_few (Begin tile run ∷ ws) = omega (arith, begun_few ws)
begun_few (Told tile n ∷ ws) = omega (arith, begun_few ws)

pub next_few : (number : ℕ) (job : JobParts) (tour : Tour) (count : ℕ) (first_input input first_text text : Option (List ℕ))
    → SoFar number job tour count first_input input first_text text → tour.next ≤ count
next_few number job tour count first_input input first_text text so_far =
    omega (arith, so_far.stands.next_is, begun_few so_far.words, so_far.counted)

pub goes_on : (number : ℕ) (job : JobParts) (tour new : Tour) (count : ℕ) (first_input input new_input first_text text new_text : Option (List ℕ))
    → (so_far : SoFar number job tour count first_input input first_text text)
    → Steps number job so_far.words so_far.pieces new input new_input text new_text None
    → SoFar number job new (count + 1) first_input new_input first_text new_text
goes_on number job tour new count first_input input new_input first_text text new_text so_far (inl (w, told, fits, (more, wrote, stands))) = record {
  words = w ∷ so_far.words;
  pieces = so_far.pieces ++ more;
  stands = stands;
  counted = omega (arith, so_far.counted);
  told = Consumes-trans first_input input new_input (words_bytes so_far.words) (word_bytes w) so_far.told told;
  written = subst (Appends first_text new_text) (sym (flat_map-append piece_bytes so_far.pieces more))
      (Appends-trans first_text text new_text _ _ so_far.written wrote);
}
goes_on number job tour new count first_input input new_input first_text text new_text so_far (inr (last, is, kept, why)) = absurd cc

-- ---- it ends

tour_is : (number : ℕ) (job : JobParts) (tour : Tour) (count : ℕ) (whole : List ℕ) (input first_text text new_text : Option (List ℕ)) (end : TourEnd)
    → (so_far : SoFar number job tour count (Some whole) input first_text text) → Keeps text new_text
    → ((rest : List ℕ) → input ≡ Some rest → Ends number job rest so_far.words end)
    → Tours number job whole first_text new_text end
tour_is number job tour count whole input first_text text new_text end so_far kept ends =
    let known = known_rest whole input (words_bytes so_far.words) so_far.told in
    record {
      words = so_far.words;
      pieces = so_far.pieces;
      rest = known.0;
      is_tour = so_far.stands.is_tour;
      told = known.2;
      written = Appends-kept first_text text new_text _ so_far.written kept;
      ended = ends known.0 known.1;
    }

no_end : (number : ℕ) (job : JobParts) (ws : List TourWord) (w : TourWord) → RefusesWord number job ws w faults.EndOfInput → ⊥
no_end number job ws (Begin tile run) why = why
no_end number job ws (Told tile n) why = why

not_spent : (number : ℕ) (job : JobParts) (ws : List TourWord) (w : TourWord) → RefusesWord number job ws w faults.NumbersSpent → ⊥
not_spent number job ws (Begin tile run) why = why
not_spent number job ws (Told tile n) why = why

refused : (number : ℕ) (job : JobParts) (rest : List ℕ) (ws : List TourWord) (w : TourWord) (behind : List ℕ) (fault : Fault)
    → rest ≡ word_bytes w ++ behind → Fits w → RefusesWord number job ws w fault → Ends number job rest ws (Refused fault)
refused number job rest ws w behind faults.EndOfInput is fits why = absurd (no_end number job ws w why)
refused number job rest ws w behind faults.ReadError is fits why = tt
refused number job rest ws w behind faults.NumbersSpent is fits why = absurd (not_spent number job ws w why)
refused number job rest ws w behind faults.BadNotice is fits why = inr (record { word = w; behind = behind; is_next = is; fits = fits; why = why })
refused number job rest ws w behind faults.NoMemory is fits why = inr (record { word = w; behind = behind; is_next = is; fits = fits; why = why })
refused number job rest ws w behind _ is fits why = record { word = w; behind = behind; is_next = is; fits = fits; why = why }

-- Nothing is left.
at_end : (rest : List ℕ) (input new : Option (List ℕ)) → input ≡ Some rest → Consumes input new [] → IsAtEnd new → rest ≡ []
at_end rest input new is told end =
    let known = known_rest rest new [] (subst (λ i. Consumes i new []) is told) in
    known.2 ∙ subst IsAtEnd known.1 end

unread : (number : ℕ) (job : JobParts) (rest : List ℕ) (ws : List TourWord) (input new : Option (List ℕ)) (end : TourEnd) → input ≡ Some rest
    → EndsUnread input new ws end → Ends number job rest ws end
unread number job rest ws input new Over is ((told, end), none) = (at_end rest input new is told end, none)
unread number job rest ws input new (Refused faults.BadNotice) is (inl (bytes, told, len, none)) =
    let known = known_rest rest new bytes (subst (λ i. Consumes i new bytes) is told) in
    let front : take 24 rest ≡ bytes = ap (take 24) known.2 ∙ take_at bytes known.0 24 len in
    inl (record {
      long = omega (arith, ap length known.2, length-append bytes known.0, len);
      none = λ w same. none w (sym front ∙ same);
    })
unread number job rest ws input new (Refused faults.EndOfInput) is (inl (bytes, told, some, few, end)) =
    let known = known_rest rest new bytes (subst (λ i. Consumes i new bytes) is told) in
    let none : known.0 ≡ [] = subst IsAtEnd known.1 end in
    let all : rest ≡ bytes = known.2 ∙ ap (λ l. bytes ++ l) none ∙ append-nil bytes in
    (omega (arith, ap length all, few), λ empty none_open. omega (arith, ap length all, ap length empty, some))
unread number job rest ws input new (Refused faults.ReadError) is (inl why) = tt
unread number job rest ws input new (Refused _) is (inl why) = absurd why
unread number job rest ws input new (Refused fault) is (inr ((told, end), some, fault_is)) =
    let none = at_end rest input new is told end in
    subst (λ f. Ends number job rest ws (Refused f)) (sym fault_is) (omega (arith, ap length none), λ empty none_open. some none_open)

pub ends_so : (number : ℕ) (job : JobParts) (tour new : Tour) (count : ℕ) (first_input input new_input first_text text new_text : Option (List ℕ)) (end : TourEnd)
    → (so_far : SoFar number job tour count first_input input first_text text)
    → Steps number job so_far.words so_far.pieces new input new_input text new_text (Some end)
    → IfSome first_input (λ whole. Tours number job whole first_text new_text end)
ends_so number job tour new count None input new_input first_text text new_text end so_far step = tt
ends_so number job tour new count (Some whole) input new_input first_text text new_text Over so_far (inl (w, told, fits, does)) = absurd does
ends_so number job tour new count (Some whole) input new_input first_text text new_text (Refused fault) so_far (inl (w, told, fits, (kept, why))) =
    tour_is number job tour count whole input first_text text new_text (Refused fault) so_far kept
    (λ rest is.
    let known = known_rest rest new_input (word_bytes w) (subst (λ i. Consumes i new_input (word_bytes w)) is told) in
    refused number job rest so_far.words w known.0 fault known.2 fits why)
ends_so number job tour new count (Some whole) input new_input first_text text new_text end so_far (inr (last, is, kept, why)) =
    let same : end ≡ last = cc in
    subst (Tours number job whole first_text new_text) (sym same)
    (tour_is number job tour count whole input first_text text new_text last so_far kept
    (λ rest at. unread number job rest so_far.words input new_input last at why))

-- It has no memory to begin with.
pub no_room : (number : ℕ) (job : JobParts) (first_input text : Option (List ℕ)) → IfSome first_input (λ whole. Tours number job whole text text (Refused faults.NoMemory))
no_room number job None text = tt
no_room number job (Some whole) text = record {
  words = [];
  pieces = [];
  rest = whole;
  is_tour = refl;
  told = refl;
  written = Appends-nil text;
  ended = inl refl;
}

-- No number is left.
pub spent : (number : ℕ) (job : JobParts) (tour : Tour) (count : ℕ) (first_input input first_text text : Option (List ℕ))
    → SoFar number job tour count first_input input first_text text → count ≡ 2 ^ 64 - 1
    → IfSome first_input (λ whole. Tours number job whole first_text text (Refused faults.NumbersSpent))
spent number job tour count None input first_text text so_far all = tt
spent number job tour count (Some whole) input first_text text so_far all =
    let known = known_rest whole input (words_bytes so_far.words) so_far.told in
    record {
      words = so_far.words;
      pieces = so_far.pieces;
      rest = known.0;
      is_tour = so_far.stands.is_tour;
      told = known.2;
      written = so_far.written;
      ended = so_far.counted ∙ all;
    }

-- How the input ends says how the tour does.
pub ends_by : (tiles : List Tile) (ws : List TourWord) (old new : Option (List ℕ)) → map (λ (x : Tile). x.number) tiles ≡ open_tiles ws
    → Consumes old new [] → IsAtEnd new → EndsUnread old new ws (end_by tiles)
ends_by [] ws old new numbers told end = ((told, end), sym numbers)
ends_by (x ∷ xs) ws old new numbers told end = inr ((told, end), (λ none. let same : x.number ∷ map (λ (y : Tile). y.number) xs ≡ [] = numbers ∙ none in absurd cc), refl)

-- What holds by the number and the settings that a tour keeps, holds by those of the job.
pub of_job : (number : ℕ) (job : JobParts) (tour : Tour) (P : ℕ → JobParts → Type 0) → tour.number ≡ number → tour.rec ≡ job → P tour.number tour.rec → P number job
of_job number job tour P number_is job_is p = subst (P number) job_is (subst (λ n. P n tour.rec) number_is p)
