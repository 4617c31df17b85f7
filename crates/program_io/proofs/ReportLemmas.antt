-- The words of a report as they are written, part by part.
use Rattle.std.proofs.Common.{◌≡◌, ℕ, List, [], ◌∷◌, ◌++◌, codes, decimal, append_assoc, append-nil, sym, ◌∙◌, ap}
use Rattle.std.specs.List.{flat_map}
use Rattle.fc_base.specs.declared.report.ReportEnd.{ReportEnd}
use Rattle.fc_base.specs.declared.report.ReportEnd.TheVariants.{Whole, AtFault, ReadFault}
use Rattle.program_io.specs.Words.{with_blanks_between, blank_before}
use Rattle.program_io.specs.Reports.{end_words}

-- Words are the first, and each of the others with a blank before it.
words_text : (word : List ℕ) (words : List (List ℕ)) → with_blanks_between (word ∷ words) ≡ word ++ flat_map blank_before words
words_text word [] = sym (append-nil word)
words_text word (next ∷ words) = ap (λ text. word ++ 32 ∷ text) (words_text next words)

-- Two words of any length among others.
two_behind : (d f b c rest : List ℕ) → (d ++ (b ++ (f ++ c))) ++ rest ≡ d ++ (b ++ (f ++ (c ++ rest)))
two_behind d f b c rest =
    append_assoc d (b ++ (f ++ c)) rest
    ∙ ap (λ l. d ++ l) (append_assoc b (f ++ c) rest ∙ ap (λ l. b ++ l) (append_assoc f c rest))

-- The blocks stand behind the other words.
blocks_behind : (d f b c : List ℕ) (blocks : List (List ℕ))
    → (d ++ (b ++ (f ++ (c ++ codes "first")))) ++ flat_map blank_before blocks
    ≡ d ++ (b ++ (f ++ (c ++ with_blanks_between (codes "first" ∷ blocks))))
blocks_behind d f b c blocks =
    two_behind d f b (c ++ codes "first") (flat_map blank_before blocks)
    ∙ ap (λ l. d ++ (b ++ (f ++ l))) (append_assoc c (codes "first") (flat_map blank_before blocks)
    ∙ ap (λ l. c ++ l) (sym (words_text (codes "first") blocks)))

-- The words of a report.
pub report_text : (checked faults : ℕ) (end : ReportEnd) (blocks : List (List ℕ))
    → (codes "checked " ++ (decimal checked ++ (codes " faults "
    ++ (decimal faults ++ (codes " end " ++ (with_blanks_between (end_words end) ++ codes " first"))))))
    ++ flat_map blank_before blocks
    ≡ with_blanks_between (codes "checked" ∷ decimal checked ∷ codes "faults" ∷ decimal faults ∷ codes "end" ∷ (end_words end ++ (codes "first" ∷ blocks)))
report_text checked faults Whole blocks =
    ap (λ l. codes "checked " ++ l) (blocks_behind (decimal checked) (decimal faults) (codes " faults ") (codes " end whole ") blocks)
report_text checked faults AtFault blocks =
    ap (λ l. codes "checked " ++ l) (blocks_behind (decimal checked) (decimal faults) (codes " faults ") (codes " end fault ") blocks)
report_text checked faults (ReadFault block) blocks =
    ap (λ l. codes "checked " ++ ((decimal checked ++ (codes " faults " ++ (decimal faults ++ (codes " end read " ++ l)))) ++ flat_map blank_before blocks))
    (sym (append_assoc (decimal block) (codes " ") (codes "first")))
    ∙ ap (λ l. codes "checked " ++ l) (blocks_behind (decimal checked) (decimal faults) (codes " faults ")
    (codes " end read " ++ (decimal block ++ codes " ")) blocks)
    ∙ ap (λ l. codes "checked " ++ (decimal checked ++ (codes " faults " ++ (decimal faults ++ (codes " end read " ++ l)))))
    (append_assoc (decimal block) (codes " ") (with_blanks_between (codes "first" ∷ blocks)))
