-- Where clap finds no fault in words, they name a command of slaptools, with its folder.
use Rattle.std.proofs.Common.{◌≡◌, ◌⊎◌, ◌&&◌, ◌||◌, ◌∷◌, [], List, Bool, true, false, not, cond, Option, Some, None, is_some, ℕ, codes, refl, sym, subst, inl, inr, option_map}
use Rattle.std.specs.Prelude.{find, fold}
use Rattle.std.specs.List.{list_all, list_any}
use Rattle.std.specs.Option.{option_map_or}
use Rattle.std.specs.Str.{bytes_eq}
use Rattle.std.proofs.lemmas.Slice.Eq.{bytes_eq-Decides}
use Rattle.clap.specs.Lexer.{long_of, short_of}
use Rattle.clap.specs.Walk.{Held, Names, Outcome, Rule, Step, Text, Waiting, Walk, after_flag, after_step, answers_to, arg_by_index, arg_by_long, bundle, done, finished, idle, long_met, long_or_other, next, nothing_held, option, plain, plain_word, positional, refused, settled, short_or_plain, stop_after, subcommand, subcommand_met, subcommand_or_other, to_positional, trailing, value, waits, walk, walk_from, walked, walked_from, word_met}
use Rattle.clap.specs.Simple.{App, Shape, argument_words, built, entered, label_of, names_of, rows_at}
use Rattle.clap.specs.Kinds.{check_kinds, or_else}
use Rattle.clap.specs.Faults.{built_fault, check_fault, defaults_fault, entered_fault, level_fault, other_fault, settle_fault, step_fault, turn_fault, walk_fault, word_fault}
use Rattle.clap.specs.Words.{fault_of, subcommand_of}
use Rattle.clap.specs.declared.error.kind.ErrorKind.TheVariants as kind
use Rattle.command_line.specs.CommandLine.{slaptools}
use Rattle.command_line.specs.Requests.{IsWhole, TakesFolder}
use Rattle.command_line.proofs.Folders.{BeginsWithFolder, first, has_folder, needs_value, second}

-- ---- the command is not `help`

abbrev pub IsNoHelp : Option (Text × List Text) → Type 0
IsNoHelp None = Unit {0}
IsNoHelp (Some p) = bytes_eq p.0 (codes "help") ≡ false

abbrev pub NamesNoHelp : Step → Type 0
NamesNoHelp (subcommand name) = bytes_eq name (codes "help") ≡ false
NamesNoHelp (next waiting) = Unit {0}
NamesNoHelp (trailing position) = Unit {0}
NamesNoHelp value = Unit {0}

plain-names : (c : List Rule) (waiting : Waiting) (word : Text) (h : Held) → NamesNoHelp (plain_word c waiting word h).1
plain-names c idle word h = tt
plain-names c positional word h = tt
plain-names c (option id) word h = tt

after-names : (c : List Rule) (waiting : Waiting) (word : Text) (h : Held) (o : Outcome) → NamesNoHelp (after_flag c waiting word h o).1
after-names c waiting word h done = tt
after-names c waiting word h (waits id) = tt
after-names c waiting word h plain = plain-names c waiting word h
after-names c waiting word h refused = plain-names c waiting word h

flags-names : (c : List Rule) (o : Option Text) (waiting : Waiting) (word : Text) (h : Held) → NamesNoHelp (short_or_plain c waiting word o h).1
flags-names c None waiting word h = plain-names c waiting word h
flags-names c (Some flags) waiting word h = after-names c waiting word (bundle c flags h).0 (bundle c flags h).1

flag_word-names : (c : List Rule) (o : Option (Text × Option Text)) (waiting : Waiting) (word : Text) (h : Held) → NamesNoHelp (long_or_other c waiting word o h).1
flag_word-names c None waiting word h = flags-names c (short_of word) waiting word h
flag_word-names c (Some p) waiting word h =
    after-names c waiting word (long_met c (arg_by_long c p.0) p.1 h).0 (long_met c (arg_by_long c p.0) p.1 h).1

no_help : (b d : Bool) → d ≡ false → cond (b && not d) (kind.DisplayHelp ∷ kind.InvalidSubcommand ∷ []) [] ≡ [] → b ≡ false
no_help false d e h = refl
no_help true false e h = let bad : kind.DisplayHelp ∷ kind.InvalidSubcommand ∷ [] ≡ [] = h in cc
no_help true true e h = cc

module _ (s : Shape) (names : Names) (has_help : s.disable_help_subcommand ≡ false) where
  word-names : (is_trailing : Bool) (waiting : Waiting) (position : ℕ) (word : Text) (h : Held) → word_fault s names is_trailing waiting word h ≡ []
      → NamesNoHelp (word_met s.rules names is_trailing waiting position word h).1
  word-names true waiting position word h none = tt
  word-names false waiting position word h none = go (subcommand_met names waiting word) none
    where
      other : (b : Bool) → NamesNoHelp (cond b (h, trailing position) (long_or_other s.rules waiting word (long_of word) h)).1
      other true = tt
      other false = flag_word-names s.rules (long_of word) waiting word h

      go : (o : Option Text) → other_fault s o word h ≡ [] → NamesNoHelp (subcommand_or_other s.rules o waiting position word h).1
      go (Some name) none = no_help (bytes_eq name (codes "help")) s.disable_help_subcommand has_help none
      go None none = other (bytes_eq word (45 ∷ 45 ∷ []))

  to-stops : (o : Option Rule) (word : Text) (w : Walk) (h : Held) → IsNoHelp w.stopped → IsNoHelp (to_positional s.rules o word w h).stopped
  to-stops None word w h f = f
  to-stops (Some a) word w h f = tt

  step-stops : (w : Walk) (word : Text) (h : Held) (t : Step) → NamesNoHelp t → IsNoHelp w.stopped → IsNoHelp (after_step s.rules word w h t).stopped
  step-stops w word h (next waiting) named f = f
  step-stops w word h (trailing position) named f = f
  step-stops w word h (subcommand name) named f = named
  step-stops w word h value named f = to-stops (arg_by_index s.rules w.position) word w h f

  turn-stops : (w : Walk) (word : Text) → turn_fault s names w word ≡ [] → IsNoHelp w.stopped → IsNoHelp (walked s.rules names w word).stopped
  unfolding walked
  turn-stops w word none f = go w.stopped none f
    where
      go : (o : Option (Text × List Text)) → cond (is_some o) [] (or_else (word_fault s names w.is_trailing w.waiting word w.held)
          (step_fault s w.position (word_met s.rules names w.is_trailing w.waiting w.position word w.held).0 (word_met s.rules names w.is_trailing w.waiting w.position word w.held).1)) ≡ []
          → IsNoHelp o → IsNoHelp (walked_from s.rules names o w word).stopped
      go (Some p) none stop = stop
      go None none stop =
          step-stops w word (word_met s.rules names w.is_trailing w.waiting w.position word w.held).0 (word_met s.rules names w.is_trailing w.waiting w.position word w.held).1
          (word-names w.is_trailing w.waiting w.position word w.held (first (word_fault s names w.is_trailing w.waiting word w.held) _ none)) f

  walk-stops : (words : List Text) (w : Walk) → walk_fault s names w words ≡ [] → IsNoHelp w.stopped → IsNoHelp (fold (walked s.rules names) w words).stopped
  unfolding walk_fault
  walk-stops [] w none f = f
  walk-stops (word ∷ rest) w none f =
      walk-stops rest (walked s.rules names w word) (second (turn_fault s names w word) (walk_fault s names (walked s.rules names w word) rest) none)
      (turn-stops w word (first (turn_fault s names w word) (walk_fault s names (walked s.rules names w word) rest) none) f)

-- ---- the command is one of slaptools'

record IsOurs (s : Shape) : Type 0 where
  name : list_any (λ t. bytes_eq t.name s.name) slaptools.subs ≡ true
  needs : list_all needs_value s.rules ≡ true
  begins : TakesFolder s.name → BeginsWithFolder s.rules
  negates : s.subcommand_negates_reqs ≡ false

abbrev IsSub : Shape → Type 0
IsSub s = IsOurs s ⊎ ((s.name ≡ codes "help") × (s.aliases ≡ []))

abbrev AllSubs : List Shape → Type 0
AllSubs [] = Unit {0}
AllSubs (s ∷ rest) = IsSub s × AllSubs rest

abbrev FoundIf : Text → Option Shape → Type 0
FoundIf word None = Unit {0}
FoundIf word (Some s) = (answers_to word (label_of s) ≡ true) × IsSub s

found-sub : (word : Text) (subs : List Shape) → AllSubs subs → FoundIf word (find (λ s. answers_to word (label_of s)) subs)
found-sub word [] all = tt
found-sub word (s ∷ rest) all = go (answers_to word (label_of s)) refl (found-sub word rest all.1)
  where
    go : (b : Bool) → answers_to word (label_of s) ≡ b → FoundIf word (find (λ s. answers_to word (label_of s)) rest)
        → FoundIf word (cond b (Some s) (find (λ s. answers_to word (label_of s)) rest))
    go true e rec = (e, all.0)
    go false e rec = rec

or_nothing : (b : Bool) → (b || false) ≡ true → b ≡ true
or_nothing true h = refl
or_nothing false h = h

whole_at : (p : Text × List Text) (o : Option Shape) → FoundIf p.0 o → bytes_eq p.0 (codes "help") ≡ false
    → option_map_or (λ s. level_fault s [] nothing_held p.1 false []) o [] ≡ [] → is_some (option_map (λ s. rows_at s p.1) o) ≡ true
    → IsWhole (option_map (λ s. rows_at s p.1) o)
whole_at p None found other none some = cc
whole_at p (Some s) found other none some = go found.1
  where
    go : IsSub s → IsWhole (Some (rows_at s p.1))
    go (inl ours) = (ours.name, λ takes. has_folder s p.1 ours.needs (ours.begins takes) ours.negates none)
    go (inr help) =
        let answers : (bytes_eq (codes "help") p.0 || false) ≡ true = rw (help.0, help.1) at found.0 in
        let same : codes "help" ≡ p.0 = (bytes_eq-Decides (codes "help") p.0).0 (or_nothing (bytes_eq (codes "help") p.0) answers) in
        let bad : true ≡ false = subst (λ (t : Text). bytes_eq t (codes "help") ≡ false) (sym same) other in
        cc

whole_stop : (a : App) (stop : Option (Text × List Text)) → AllSubs a.subs → IsNoHelp stop → entered_fault a stop ≡ [] → is_some (entered a stop) ≡ true
    → IsWhole (entered a stop)
whole_stop a None all other none some = cc
whole_stop a (Some p) all other none some = whole_at p (find (λ s. answers_to p.0 (label_of s)) a.subs) (found-sub p.0 a.subs all) other none some

entered_one : (a needs has : Bool) (c : Bool) → needs ≡ true → check_kinds a (not has && needs) c ≡ [] → has ≡ true
entered_one a needs true c e h = refl
entered_one true needs false c e h = let bad : kind.DisplayHelpOnMissingArgumentOrSubcommand ∷ [] ≡ [] = h in cc
entered_one false true false c e h = let bad : kind.MissingSubcommand ∷ [] ≡ [] = h in cc
entered_one false false false c e h = cc

whole_of : (a : App) (words : List Text) → a.top.subcommand_required ≡ true → a.top.disable_help_subcommand ≡ false → AllSubs a.subs
    → built_fault a nothing_held words ≡ [] → IsWhole (entered a (stop_after a.top.rules (names_of a) words))
whole_of a words needs has_help all none =
    let s = a.top in
    let names = names_of a in
    let end = (walk s.rules names nothing_held words).held in
    let stop = (walk s.rules names nothing_held words).stopped in
    let walks = first (walk_fault s names (walk_from nothing_held) words) _ none in
    let past_walk = second (walk_fault s names (walk_from nothing_held) words) _ none in
    let below = first (entered_fault a stop) _ past_walk in
    let past_below = second (entered_fault a stop) _ past_walk in
    let past_settling = second (settle_fault s.rules s.args_override_self end) _ past_below in
    let checks = second (defaults_fault (settled s.rules end).rows s.rules) (check_fault s (finished s.rules end) (is_some (entered a stop))) past_settling in
    whole_stop a stop all (walk-stops s names has_help words (walk_from nothing_held) walks tt) below
    (entered_one _ s.subcommand_required (is_some (entered a stop)) _ needs checks)

ours : (s : Shape) → list_any (λ t. bytes_eq t.name s.name) slaptools.subs ≡ true → list_all needs_value s.rules ≡ true → (TakesFolder s.name → BeginsWithFolder s.rules)
    → s.subcommand_negates_reqs ≡ false → IsSub s
ours s name needs begins negates = inl (record { name = name; needs = needs; begins = begins; negates = negates })

pub whole : (words : List Text) → fault_of slaptools words ≡ [] → IsWhole (subcommand_of slaptools words)
whole words none =
    whole_of (built slaptools) (argument_words slaptools words) refl refl (
      ours _ refl refl (λ _. (refl, refl)) refl,
      (
        ours _ refl refl (λ _. (refl, refl)) refl,
        (
          ours _ refl refl (λ _. (refl, refl)) refl,
          (
            ours _ refl refl (λ _. (refl, refl)) refl,
            (
              ours _ refl refl (λ _. (refl, refl)) refl,
              (
                ours _ refl refl (λ _. (refl, refl)) refl,
                (
                  ours _ refl refl (λ _. (refl, refl)) refl,
                  (
                    ours _ refl refl (λ takes. absurd (takes.0 refl)) refl,
                    (
                      ours _ refl refl (λ takes. absurd (takes.1 refl)) refl,
                      (inr (refl, refl), tt),
                    ),
                  ),
                ),
              ),
            ),
          ),
        ),
      ),
    )
    none
