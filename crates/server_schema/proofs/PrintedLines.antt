-- Each line that is printed is a line of its own: of a definition, or one that says nothing.
use Rattle.std.proofs.Common.{◌≡◌, ◌∙◌, ◌⊎◌, ℕ, ◌+◌, Bool, true, false, not, ◌||◌, eqb, List, [], ◌∷◌, ◌++◌, map, length, get_or, codes, inl, inr, refl, sym, ap, subst, append_assoc}
use Rattle.std.specs.List.{list_all, All, AllByRecursion, Contains}
use Rattle.std.specs.Str.{str_eq_ignore_ascii_case}
use Rattle.std.specs.Str.Lines.{strip_carriage_return}
use Rattle.std.proofs.lemmas.Bool.{not-true}
use Rattle.std.proofs.lemmas.List.Sums.{AllPass-from_list_all}
use Rattle.std.proofs.lemmas.List.Splits.{slice_split_at}
use Rattle.definitions.specs.declared.lines.Line.{Line}
use Rattle.definitions.specs.LineGrammar.{is_in_line}
use Rattle.definitions.specs.Lines.{is_line_feed, numbered, begins_blank, onto, unfolded}
use Rattle.definitions.specs.Words.{is_blank}
use Rattle.definitions.proofs.Ends.{run_front}
use Rattle.dir_conf.specs.Configurations.{says_nothing, is_first}
use Rattle.server_schema.specs.declared.definition.Definition.{Definition}
use Rattle.server_schema.specs.declared.definition.Sort.{Sort}
use Rattle.server_schema.specs.declared.definition.Sort.TheVariants as sorts
use Rattle.server_schema.specs.Statements.{in_line}
use Rattle.server_schema.specs.Definitions.{keyword, line_of}
use Rattle.server_schema.specs.Growth.{comment_of, IsComment, IsPrinted, concat}
use Rattle.server_schema.proofs.Members.{here, later}
use Rattle.server_schema.proofs.LineEnds.{line, stripped_front, split_some, IsBare, onto_bare, lines_from, nothing_behind}
use Rattle.server_schema.proofs.OneLine.{IsOneLine, joined, in_one_line, repair_one}

-- ---- what a line is for those who look for a suffix and indexes

-- it says nothing, or something of a definition
abbrev IsPassedOver : List ℕ → Type 0
IsPassedOver text = (says_nothing text ≡ true) ⊎ ((is_first (codes "attributetype") text ≡ true) ⊎ (is_first (codes "objectclass") text ≡ true))

pub record IsQuiet (l : Line) : Type 0 where
  pub bare : begins_blank l.text ≡ false
  pub passed : IsPassedOver l.text

-- ---- a line with its end

pub record IsEnded (text : List ℕ) : Type 0 where
  pub body : List ℕ
  pub is : text ≡ body ++ 10 ∷ []
  pub one : IsOneLine body
  pub quiet : (n : ℕ) → IsQuiet (line n (strip_carriage_return body))

no_feeds : (body : List ℕ) → IsOneLine body → All (λ b. is_line_feed b ≡ false) body
no_feeds body h k d within = not-true (is_line_feed (get_or body k d)) (AllPass-from_list_all is_in_line body h k d within)

next_line : (n : ℕ) (body rest : List ℕ) → IsOneLine body → IsBare (lines_from (n + 1) rest) → lines_from n (body ++ 10 ∷ rest) ≡ line n (strip_carriage_return body) ∷ lines_from (n + 1) rest
unfolding unfolded
next_line n body rest one bare =
    let k = split_some rest in
    let l : Line = line n (strip_carriage_return body) in
    ap (λ (ss : List (List ℕ)). unfolded (numbered n ss)) (slice_split_at is_line_feed body 10 rest (no_feeds body one) refl ∙ ap (λ (ss : List (List ℕ)). body ∷ ss) k.2)
    ∙ ap (λ (ss : List (List ℕ)). onto l (unfolded (numbered (n + 1) ss))) (sym k.2)
    ∙ onto_bare l (lines_from (n + 1) rest) bare

pub ended_next : (n : ℕ) (text rest : List ℕ) (h : IsEnded text) → IsBare (lines_from (n + 1) rest) → lines_from n (text ++ rest) ≡ line n (strip_carriage_return h.body) ∷ lines_from (n + 1) rest
ended_next n text rest h bare =
    ap (lines_from n) (ap (λ (t : List ℕ). t ++ rest) h.is ∙ append_assoc h.body (10 ∷ []) rest) ∙ next_line n h.body rest h.one bare

-- ---- several

abbrev pub AreEnded : List (List ℕ) → Type 0
AreEnded texts = (text : List ℕ) → Contains texts text → IsEnded text

quiet_bare : (ls : List Line) → AllByRecursion IsQuiet ls → IsBare ls
quiet_bare [] h = tt
quiet_bare (l ∷ ls) h = h.0.bare

empty_quiet : (n : ℕ) → IsQuiet (line n [])
empty_quiet n = record { bare = refl; passed = inl refl }

pub all_quiet : (texts : List (List ℕ)) → AreEnded texts → (n : ℕ) → AllByRecursion IsQuiet (lines_from n (concat texts))
all_quiet [] h n = subst (AllByRecursion IsQuiet) (sym (nothing_behind n)) (empty_quiet n, tt)
all_quiet (text ∷ texts) h n =
    let one = h text (here text texts) in
    let more = all_quiet texts (λ t at. h t (later text t texts at)) (n + 1) in
    subst (AllByRecursion IsQuiet) (sym (ended_next n text (concat texts) one (quiet_bare (lines_from (n + 1) (concat texts)) more))) (one.quiet n, more)

pub all_bare : (texts : List (List ℕ)) → AreEnded texts → (n : ℕ) → IsBare (lines_from n (concat texts))
all_bare texts h n = quiet_bare (lines_from n (concat texts)) (all_quiet texts h n)

-- ---- those that are printed

or_true : (b : Bool) → (b || true) ≡ true
or_true true = refl
or_true false = refl

-- it begins with the sign of a comment
sign_quiet : (text rest : List ℕ) (n : ℕ) → text ≡ 35 ∷ rest → IsQuiet (line n text)
sign_quiet text rest n is = subst (λ (t : List ℕ). IsQuiet (line n t)) (sym is) (record { bare = refl; passed = inl (or_true (eqb (length (35 ∷ rest)) 0)) })

comment_ended : (text : List ℕ) → IsEnded (comment_of text)
comment_ended text =
    let body : List ℕ = 35 ∷ 32 ∷ map in_line text in
    let cut = stripped_front [] 35 (32 ∷ map in_line text) refl in
    record { body = body; is = refl; one = in_one_line text; quiet = λ n. sign_quiet (strip_carriage_return body) cut.0 n cut.1 }

-- a line that says nothing
pub record IsSilent (text : List ℕ) : Type 0 where
  pub ended : IsEnded text
  pub nothing : says_nothing (strip_carriage_return ended.body) ≡ true

pub comment_silent : (text : List ℕ) → IsComment text → IsSilent text
unfolding comment_ended
comment_silent text (comment, is) =
    let cut = stripped_front [] 35 (32 ∷ map in_line comment) refl in
    subst IsSilent (sym is) (record { ended = comment_ended comment; nothing = ap says_nothing cut.1 ∙ or_true (eqb (length (35 ∷ cut.0)) 0) })

first_is : (word rest : List ℕ) → list_all (λ b. not (is_blank b)) word ≡ true → str_eq_ignore_ascii_case word word ≡ true → is_first word (word ++ 32 ∷ rest) ≡ true
first_is word rest whole same = ap (λ (w : List ℕ). str_eq_ignore_ascii_case w word) (run_front is_blank word (32 ∷ rest) whole refl) ∙ same

-- a word, a space and a text
worded : (word text : List ℕ) → IsOneLine word → IsOneLine text → ((rest : List ℕ) (n : ℕ) → IsQuiet (line n (word ++ 32 ∷ rest))) → IsEnded (word ++ 32 ∷ (text ++ 10 ∷ []))
worded word text whole one quiet =
    let cut = stripped_front word 32 text refl in
    record {
      body = word ++ 32 ∷ text;
      is = sym (append_assoc word (32 ∷ text) (10 ∷ []));
      one = joined word (32 ∷ text) whole one;
      quiet = λ n. subst (λ (t : List ℕ). IsQuiet (line n t)) (sym cut.1) (quiet cut.0 n);
    }

defined_ended : (sort : Sort) (text : List ℕ) → IsOneLine text → IsEnded (keyword sort ++ (text ++ 10 ∷ []))
defined_ended sorts.AttributeType text one =
    let word = codes "attributetype" in worded word text refl one (λ rest n. record { bare = refl; passed = inr (inl (first_is word rest refl refl)) })
defined_ended sorts.ObjectClass text one =
    let word = codes "objectclass" in worded word text refl one (λ rest n. record { bare = refl; passed = inr (inr (first_is word rest refl refl)) })

line_ended : (d : Definition) → IsOneLine d.text → IsEnded (line_of d)
line_ended d one = defined_ended d.sort d.text one

abbrev pub AreInOneLine : List Definition → Type 0
AreInOneLine ds = (d : Definition) → Contains ds d → IsOneLine d.text

pub printed_ended : (ds : List Definition) → AreInOneLine ds → (text : List ℕ) → IsPrinted ds text → IsEnded text
printed_ended ds one text (inl (comment, is)) = subst IsEnded (sym is) (comment_ended comment)
printed_ended ds one text (inr (inl (d, at, is))) = subst IsEnded (sym is) (line_ended d (one d at))
printed_ended ds one text (inr (inr (d, e, at, repair, is))) = subst IsEnded (sym is) (line_ended e (repair_one d e repair (one d at)))
