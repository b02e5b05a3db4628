-- Where clap finds no fault in words, the folder that they give has a text.
use Rattle.std.proofs.Common.{◌≡◌, ◌<◌, ◌+◌, ◌==◌, ◌&&◌, ◌||◌, ◌++◌, ◌∷◌, [], List, ℕ, zero, suc, Bool, true, false, not, cond, Option, Some, None, is_some, IsSome, arith, length, length-append, drop, min, codes, refl}
use Rattle.std.specs.Prelude.{encode_utf8, find, fold, nat_lt, slice_get}
use Rattle.std.specs.List.{list_all, list_any}
use Rattle.std.specs.Option.{option_map_or}
use Rattle.std.specs.Str.{bytes_eq, chars}
use Rattle.std.proofs.lemmas.Bool.Decides.{nat_tests}
use Rattle.clap.specs.Lexer.{long_of, short_of}
use Rattle.clap.specs.Matches.{count_text}
use Rattle.clap.specs.Facts.{unwrap_or_range}
use Rattle.clap.specs.Walk.{Held, Names, Outcome, Row, Rule, Step, Text, Waiting, Walk, action_of, after_flag, after_step, arg_by_id, arg_by_index, arg_by_long, arg_by_short, at_row, attached_value, bundle_met, bundle_step, count_of, default_rows, done, finished, first_of, flag_met, has_row, idle, is_pending, long_met, long_or_other, more_values, most_values, new_count, next, nothing_held, option, option_met, option_word, plain, plain_word, positional, reacted, reading_by, refused, rows_after, settled, settled_rows, short_met, short_or_plain, subcommand, subcommand_met, subcommand_or_other, takes_several, takes_values, to_positional, trailing, used, used_as, used_by_id, value, values_or_missing, waits, walk, walk_from, walked, walked_from, with_count, with_default, with_values, without, word_met}
use Rattle.clap.specs.Simple.{Shape}
use Rattle.clap.specs.Takes.{is_given}
use Rattle.clap.specs.Kinds.{Kinds, check_kinds, or_else, range_kinds}
use Rattle.clap.specs.Faults.{action_fault, bundle_fault, bundle_step_fault, check_fault, defaults_fault, flag_word_fault, flags_fault, level_fault, long_fault, option_fault, other_fault, positional_fault, react_fault, settle_fault, short_fault, step_fault, stray_fault, turn_fault, use_fault, walk_fault, word_fault}
use Rattle.clap.specs.declared.builder.action.ArgAction.{ArgAction}
use Rattle.clap.specs.declared.builder.action.ArgAction.TheVariants as action
use Rattle.clap.specs.declared.builder.value_parser.Reading.{Reading}
use Rattle.clap.specs.declared.error.kind.ErrorKind.TheVariants as kind
use Rattle.clap.specs.declared.parser.matches.ValueSource.{ValueSource}
use Rattle.clap.specs.declared.parser.matches.ValueSource.TheVariants.{CommandLine, DefaultValue}

-- ---- faults in a row: where there is none, there is none in either part

pub first : (a b : Kinds) → or_else a b ≡ [] → a ≡ []
first [] b h = refl
first (k ∷ ks) b h = h

pub second : (a b : Kinds) → or_else a b ≡ [] → b ≡ []
second [] b h = h
second (k ∷ ks) b h = cc

-- ---- rows

abbrev pub db : Text
db = codes "db"

-- a row of the folder has a text
abbrev pub FineRow : Row → Type 0
FineRow r = bytes_eq r.id db ≡ true → 0 < length r.values

abbrev pub Fine : List Row → Type 0
Fine [] = Unit {0}
Fine (r ∷ rs) = FineRow r × Fine rs

fine-append : (xs ys : List Row) → Fine xs → Fine ys → Fine (xs ++ ys)
fine-append [] ys hx hy = hy
fine-append (x ∷ xs) ys hx hy = (hx.0, fine-append xs ys hx.1 hy)

fine-at : (id : Text) (change : Row → List Row) (missing rows : List Row) → ((r : Row) → FineRow r → Fine (change r)) → Fine missing → Fine rows
    → Fine (at_row id change missing rows)
fine-at id change missing [] hc hm h = hm
fine-at id change missing (r ∷ rs) hc hm h = go (bytes_eq r.id id) (fine-at id change missing rs hc hm h.1)
  where
    go : (b : Bool) → Fine (at_row id change missing rs) → Fine (cond b (change r ++ rs) (r ∷ at_row id change missing rs))
    go true rec = fine-append (change r) rs (hc r h.0) h.1
    go false rec = (h.0, rec)

longer : (xs ys : List Text) → 0 < length xs → 0 < length (xs ++ ys)
longer xs ys h = omega (arith, length-append xs ys)

more-fine : (s : ValueSource) (values : List Text) (r : Row) → FineRow r → Fine (more_values s values r)
more-fine s values r fine = ((λ e. longer r.values values (fine e)), tt)

count-fine : (s : ValueSource) (n : ℕ) (r : Row) → FineRow r → Fine (new_count s n r)
count-fine s n r fine = ((λ e. longer r.values (count_text n ∷ []) (fine e)), tt)

one-more : (t : Text) → 0 < length (t ∷ [])
one-more t = omega arith

alone-fine : (r : Row) → FineRow r → Fine (r ∷ [])
alone-fine r fine = (fine, tt)

fine-values : (id : Text) (how : Reading) (s : ValueSource) (values : List Text) (rows : List Row) → (bytes_eq id db ≡ true → 0 < length values) → Fine rows
    → Fine (with_values id how s values rows)
fine-values id how s values rows some h = fine-at id (more_values s values) _ rows (more-fine s values) (alone-fine (record { id = id; values = values; count = None; source = Some s; reading = how }) some) h

fine-count : (id : Text) (how : Reading) (s : ValueSource) (n : ℕ) (rows : List Row) → Fine rows → Fine (with_count id how s n rows)
fine-count id how s n rows h = fine-at id (new_count s n) _ rows (count-fine s n) (alone-fine (record { id = id; values = count_text n ∷ []; count = Some n; source = Some s; reading = how }) (λ e. one-more (count_text n))) h

fine-without : (id : Text) (rows : List Row) → Fine rows → Fine (without id rows)
fine-without id rows h = fine-at id (λ _. []) [] rows (λ r fine. tt) tt h

fine-used : (x : ArgAction) (id : Text) (how : Reading) (values : List Text) (rows : List Row) → (bytes_eq id db ≡ true → 0 < length values) → Fine rows
    → Fine (used_as x id how values rows)
fine-used action.Set id how values rows some h = fine-values id how CommandLine values (without id rows) some (fine-without id rows h)
fine-used action.SetTrue id how values rows some h = fine-values id how CommandLine values (without id rows) some (fine-without id rows h)
fine-used action.SetFalse id how values rows some h = fine-values id how CommandLine values (without id rows) some (fine-without id rows h)
fine-used action.Append id how values rows some h = fine-values id how CommandLine values rows some h
fine-used action.Count id how [] rows some h = fine-count id how CommandLine (min (count_of id rows + 1) 255) (without id rows) (fine-without id rows h)
fine-used action.Count id how (v ∷ vs) rows some h = fine-values id how CommandLine (v ∷ vs) (without id rows) some (fine-without id rows h)
fine-used action.Help id how values rows some h = h
fine-used action.HelpShort id how values rows some h = h
fine-used action.HelpLong id how values rows some h = h
fine-used action.Version id how values rows some h = h

-- ---- one use of an option

-- the option of the folder wants a value
abbrev pub needs_value : Rule → Bool
needs_value a = not (bytes_eq a.id db) || nat_lt 0 (unwrap_or_range a.range).start_inclusive

abbrev pub NeedsIf : Option Rule → Type 0
NeedsIf None = Unit {0}
NeedsIf (Some a) = needs_value a ≡ true

-- the option that is found is one of them
found-needs : (test : Rule → Bool) (c : List Rule) → list_all needs_value c ≡ true → NeedsIf (find test c)
found-needs test [] all = tt
found-needs test (a ∷ rest) all = go (test a) (found-needs test rest (right (needs_value a) (list_all needs_value rest) all))
  where
    left : (x y : Bool) → (x && y) ≡ true → x ≡ true
    left true y h = refl
    left false y h = h

    right : (x y : Bool) → (x && y) ≡ true → y ≡ true
    right true y h = h
    right false y h = cc

    go : (b : Bool) → NeedsIf (find test rest) → NeedsIf (cond b (Some a) (find test rest))
    go true rec = left (needs_value a) (list_all needs_value rest) all
    go false rec = rec

wanted : (b : Bool) (least : ℕ) → (not b || nat_lt 0 least) ≡ true → b ≡ true → 0 < least
wanted true zero h e = cc
wanted true (suc k) h e = omega arith
wanted false k h e = cc

some_values : (least most n : ℕ) → range_kinds least most n ≡ [] → 0 < least → 0 < n
some_values least most n h lt = go (nat_lt 0 least) n _ (grind (arith, nat_tests)) h
  where
    go : (b : Bool) (n : ℕ) (others : Kinds) → b ≡ true → cond (b && (n == 0)) (kind.InvalidValue ∷ []) others ≡ [] → 0 < n
    go true zero others e h = let bad : kind.InvalidValue ∷ [] ≡ [] = h in cc
    go true (suc n) others e h = omega arith
    go false n others e h = cc

given : (a : Rule) (values : List Text) → 0 < length values → 0 < length (values_or_missing a values)
given a [] lt = absurd (omega arith)
given a (v ∷ vs) lt = lt

fine-use : (again : Bool) (a : Rule) (values : List Text) (rows : List Row) → use_fault again a values rows ≡ [] → needs_value a ≡ true → Fine rows
    → Fine (used a values rows)
fine-use again a values rows none needs h =
    let fits = first (range_kinds (unwrap_or_range a.range).start_inclusive (most_values a) (length values)) (action_fault (action_of a) again a (values_or_missing a values) rows) none in
    fine-used (action_of a) a.id (reading_by a) (values_or_missing a values) rows
    (λ e. given a values (some_values (unwrap_or_range a.range).start_inclusive (most_values a) (length values) fits
    (wanted (bytes_eq a.id db) (unwrap_or_range a.range).start_inclusive needs e))) h

-- ---- what one word does

module _ (c : List Rule) (all : list_all needs_value c ≡ true) (again : Bool) where
  fine-by_id : (o : Option Rule) (values : List Text) (rows : List Row) → option_map_or (λ a. use_fault again a values rows) o [] ≡ [] → NeedsIf o → Fine rows
      → Fine (used_by_id o values rows)
  fine-by_id None values rows none needs h = h
  fine-by_id (Some a) values rows none needs h = fine-use again a values rows none needs h

  fine-rows : (p : Option (Text × List Text)) (rows : List Row)
      → option_map_or (λ p. option_map_or (λ a. use_fault again a p.1 rows) (arg_by_id c p.0) []) p [] ≡ [] → Fine rows → Fine (settled_rows c p rows)
  fine-rows None rows none h = h
  fine-rows (Some p) rows none h = fine-by_id (arg_by_id c p.0) p.1 rows none (found-needs (λ a. bytes_eq a.id p.0) c all) h

  fine-settled : (h : Held) → settle_fault c again h ≡ [] → Fine h.rows → Fine (settled c h).rows
  fine-settled h none f = fine-rows h.pending h.rows none f

  fine-reacted : (a : Rule) (values : List Text) (h : Held) → react_fault c again a values h ≡ [] → needs_value a ≡ true → Fine h.rows → Fine (reacted c a values h).rows
  fine-reacted a values h none needs f =
      fine-use again a values (settled c h).rows (second (settle_fault c again h) (use_fault again a values (settled c h).rows) none) needs
      (fine-settled h (first (settle_fault c again h) (use_fault again a values (settled c h).rows) none) f)

  fine-option : (a : Rule) (v : Option Text) (h : Held) → option_fault c again a v h ≡ [] → needs_value a ≡ true → Fine h.rows → Fine (option_met c a v h).0.rows
  fine-option a (Some v) h none needs f = fine-reacted a (v ∷ []) h none needs f
  fine-option a None h none needs f = fine-settled h none f

  fine-flag : (a : Rule) (v : Option Text) (h : Held) → cond (is_some v) (kind.TooManyValues ∷ []) (react_fault c again a [] h) ≡ [] → needs_value a ≡ true → Fine h.rows
      → Fine (flag_met c a v h).0.rows
  fine-flag a (Some v) h none needs f = f
  fine-flag a None h none needs f = fine-reacted a [] h none needs f

  fine-long : (o : Option Rule) (v : Option Text) (h : Held) → long_fault c again o v h ≡ [] → NeedsIf o → Fine h.rows → Fine (long_met c o v h).0.rows
  fine-long None v h none needs f = f
  fine-long (Some a) v h none needs f = go (takes_values a) none
    where
      go : (b : Bool) → cond b (option_fault c again a v h) (cond (is_some v) (kind.TooManyValues ∷ []) (react_fault c again a [] h)) ≡ []
          → Fine (cond b (option_met c a v h) (flag_met c a v h)).0.rows
      go true none = fine-option a v h none needs f
      go false none = fine-flag a v h none needs f

  fine-short : (o : Option Rule) (rest : Text) (h : Held) (after : Held → Held × Outcome) (bad : Held → Kinds)
      → ((k : Held) → bad k ≡ [] → Fine k.rows → Fine (after k).0.rows) → short_fault c again o rest h bad ≡ [] → NeedsIf o → Fine h.rows
      → Fine (short_met c o rest h after).0.rows
  fine-short None rest h after bad goes none needs f = f
  fine-short (Some a) rest h after bad goes none needs f = go (takes_values a) none
    where
      go : (b : Bool) → cond b (option_fault c again a (attached_value rest) h) (or_else (react_fault c again a [] h) (bad (reacted c a [] h))) ≡ []
          → Fine (cond b (option_met c a (attached_value rest) h) (after (reacted c a [] h))).0.rows
      go true none = fine-option a (attached_value rest) h none needs f
      go false none =
          goes (reacted c a [] h) (second (react_fault c again a [] h) (bad (reacted c a [] h)) none)
          (fine-reacted a [] h (first (react_fault c again a [] h) (bad (reacted c a [] h)) none) needs f)

  fine-bundle_step : (o : Option ℕ) (flags : Text) (skip : ℕ) (so_far : Outcome) (h : Held) (after : Text → ℕ → Outcome → Held → Held × Outcome) (bad : Text → ℕ → Held → Kinds)
      → ((t : Text) (n : ℕ) (s : Outcome) (k : Held) → bad t n k ≡ [] → Fine k.rows → Fine (after t n s k).0.rows)
      → bundle_step_fault c again o flags skip h bad ≡ [] → Fine h.rows → Fine (bundle_step c o flags skip so_far h after).0.rows
  fine-bundle_step None flags skip so_far h after bad goes none f = f
  fine-bundle_step (Some x) flags zero so_far h after bad goes none f =
      let rest = drop (length (encode_utf8 x)) flags in
      fine-short (arg_by_short c x) rest h (after rest 0 done) (bad rest 0) (goes rest 0 done) none (found-needs _ c all) f
  fine-bundle_step (Some x) flags (suc skip) so_far h after bad goes none f = goes (drop (length (encode_utf8 x)) flags) skip so_far h none f

  fine-bundle : (k : ℕ) (flags : Text) (skip : ℕ) (so_far : Outcome) (h : Held) → flags_fault c again k flags skip h ≡ [] → Fine h.rows
      → Fine (bundle_met c k flags skip so_far h).0.rows
  unfolding bundle_met flags_fault
  fine-bundle zero flags skip so_far h none f = f
  fine-bundle (suc k) flags skip so_far h none f =
      fine-bundle_step (slice_get (chars flags) 0) flags skip so_far h (bundle_met c k) (flags_fault c again k) (fine-bundle k) none f

  fine-value_of : (o : Option Rule) (id word : Text) (h : Held) → Fine h.rows → Fine (option_word o id word h).0.rows
  fine-value_of None id word h f = f
  fine-value_of (Some a) id word h f = f

  fine-plain : (waiting : Waiting) (word : Text) (h : Held) → Fine h.rows → Fine (plain_word c waiting word h).0.rows
  fine-plain idle word h f = f
  fine-plain positional word h f = f
  fine-plain (option id) word h f = fine-value_of (arg_by_id c id) id word h f

  fine-after : (waiting : Waiting) (word : Text) (h : Held) (o : Outcome) → Fine h.rows → Fine (after_flag c waiting word h o).0.rows
  fine-after waiting word h done f = f
  fine-after waiting word h (waits id) f = f
  fine-after waiting word h plain f = fine-plain waiting word h f
  fine-after waiting word h refused f = fine-plain waiting word h f

  fine-flags : (o : Option Text) (waiting : Waiting) (word : Text) (h : Held) → option_map_or (λ flags. bundle_fault c again flags h) o [] ≡ [] → Fine h.rows
      → Fine (short_or_plain c waiting word o h).0.rows
  fine-flags None waiting word h none f = fine-plain waiting word h f
  fine-flags (Some flags) waiting word h none f =
      fine-after waiting word _ _ (fine-bundle (length flags) flags h.skip plain (record h { skip = 0 }) none f)

  fine-flag_word : (o : Option (Text × Option Text)) (waiting : Waiting) (word : Text) (h : Held) → flag_word_fault c again o word h ≡ [] → Fine h.rows
      → Fine (long_or_other c waiting word o h).0.rows
  fine-flag_word (Some p) waiting word h none f = fine-after waiting word _ _ (fine-long (arg_by_long c p.0) p.1 h none (found-needs _ c all) f)
  fine-flag_word None waiting word h none f = fine-flags (short_of word) waiting word h none f

-- ---- the walk over the words

module _ (s : Shape) (names : Names) (all : list_all needs_value s.rules ≡ true) where
  fine-word : (is_trailing : Bool) (waiting : Waiting) (position : ℕ) (word : Text) (h : Held) → word_fault s names is_trailing waiting word h ≡ [] → Fine h.rows
      → Fine (word_met s.rules names is_trailing waiting position word h).0.rows
  fine-word true waiting position word h none f = f
  fine-word false waiting position word h none f = go (subcommand_met names waiting word) none
    where
      other : (b : Bool) → cond b [] (flag_word_fault s.rules s.args_override_self (long_of word) word h) ≡ []
          → Fine (cond b (h, trailing position) (long_or_other s.rules waiting word (long_of word) h)).0.rows
      other true none = f
      other false none = fine-flag_word s.rules all s.args_override_self (long_of word) waiting word h none f

      go : (o : Option Text) → other_fault s o word h ≡ [] → Fine (subcommand_or_other s.rules o waiting position word h).0.rows
      go (Some name) none = f
      go None none = other (bytes_eq word (45 ∷ 45 ∷ [])) none

  fine-to : (o : Option Rule) (word : Text) (w : Walk) (h : Held) → option_map_or (λ a. positional_fault s.rules s.args_override_self a h) o (stray_fault s) ≡ [] → Fine h.rows
      → Fine (to_positional s.rules o word w h).held.rows
  fine-to None word w h none f = f
  fine-to (Some a) word w h none f = go (is_pending a h.pending && takes_several a) none
    where
      go : (b : Bool) → cond b [] (settle_fault s.rules s.args_override_self h) ≡ [] → Fine (cond b h (settled s.rules h)).rows
      go true none = f
      go false none = fine-settled s.rules all s.args_override_self h none f

  fine-step : (w : Walk) (word : Text) (h : Held) (t : Step) → step_fault s w.position h t ≡ [] → Fine h.rows → Fine (after_step s.rules word w h t).held.rows
  fine-step w word h (next waiting) none f = f
  fine-step w word h (trailing position) none f = f
  fine-step w word h (subcommand name) none f = f
  fine-step w word h value none f = fine-to (arg_by_index s.rules w.position) word w h none f

  fine-turn : (w : Walk) (word : Text) → turn_fault s names w word ≡ [] → Fine w.held.rows → Fine (walked s.rules names w word).held.rows
  unfolding walked
  fine-turn w word none f = go w.stopped none
    where
      met : Held × Step
      met = word_met s.rules names w.is_trailing w.waiting w.position word w.held

      go : (o : Option (Text × List Text)) → cond (is_some o) [] (or_else (word_fault s names w.is_trailing w.waiting word w.held)
          (step_fault s w.position (word_met s.rules names w.is_trailing w.waiting w.position word w.held).0 (word_met s.rules names w.is_trailing w.waiting w.position word w.held).1)) ≡ []
          → Fine (walked_from s.rules names o w word).held.rows
      go (Some p) none = f
      go None none =
          fine-step w word (word_met s.rules names w.is_trailing w.waiting w.position word w.held).0 (word_met s.rules names w.is_trailing w.waiting w.position word w.held).1
          (second (word_fault s names w.is_trailing w.waiting word w.held) _ none)
          (fine-word w.is_trailing w.waiting w.position word w.held (first (word_fault s names w.is_trailing w.waiting word w.held) _ none) f)

  pub fine-walk : (words : List Text) (w : Walk) → walk_fault s names w words ≡ [] → Fine w.held.rows → Fine (fold (walked s.rules names) w words).held.rows
  unfolding walk_fault
  fine-walk [] w none f = f
  fine-walk (word ∷ rest) w none f =
      fine-walk rest (walked s.rules names w word) (second (turn_fault s names w word) (walk_fault s names (walked s.rules names w word) rest) none)
      (fine-turn w word (first (turn_fault s names w word) (walk_fault s names (walked s.rules names w word) rest) none) f)

-- ---- after the walk

fine-default : (rows : List Row) (a : Rule) → Fine rows → Fine (with_default rows a)
fine-default rows a f = go (has_row a.id rows) a.defaults
  where
    go : (b : Bool) (values : List Text) → Fine (cond b rows (default_rows a.id (reading_by a) values rows))
    go true values = f
    go false [] = f
    go false (v ∷ vs) = fine-values a.id (reading_by a) DefaultValue (v ∷ vs) rows (λ e. omega arith) f

fine-defaults : (c : List Rule) (rows : List Row) → Fine rows → Fine (fold with_default rows c)
fine-defaults [] rows f = f
fine-defaults (a ∷ rest) rows f = fine-defaults rest (with_default rows a) (fine-default rows a f)

-- the folder was given, so it has a text
has_text : (rows : List Row) → Fine rows → is_given db rows ≡ true → IsSome (first_of db rows)
has_text [] f given = cc
has_text (r ∷ rs) f given = go (bytes_eq r.id db) refl given (has_text rs f.1)
  where
    head : (vs : List Text) → 0 < length vs → IsSome (slice_get vs 0)
    head [] lt = absurd (omega arith)
    head (v ∷ vs) lt = refl

    go : (b : Bool) → bytes_eq r.id db ≡ b → is_given db (r ∷ rs) ≡ true → (is_given db rs ≡ true → IsSome (first_of db rs)) → IsSome (first_of db (r ∷ rs))
    go true e given rec = rw e (head r.values (f.0 e))
    go false e given rec = rw e (rec (rw e at given))

-- the last check: what is required was given
third : (a b c : Bool) → check_kinds a b c ≡ [] → c ≡ false
third true b c h = cc
third false true c h = cc
third false false true h = cc
third false false false h = refl

-- the command's first option is the folder, which it requires
abbrev pub BeginsWithFolder : List Rule → Type 0
BeginsWithFolder [] = ⊥
BeginsWithFolder (a ∷ rest) = (a.id ≡ db) × (a.required ≡ true)

required : (c : List Rule) (rows : List Row) (negates : Bool) → negates ≡ false → BeginsWithFolder c
    → (not (negates && false) && list_any (λ a. a.required && not (is_given a.id rows)) c) ≡ false → is_given db rows ≡ true
required [] rows negates keeps begins h = absurd begins
required (a ∷ rest) rows negates keeps begins h =
    go (is_given db rows) (rw (keeps, begins.0, begins.1) at h)
  where
    go : (b : Bool) → (not b || list_any (λ a. a.required && not (is_given a.id rows)) rest) ≡ false → b ≡ true
    go true h = refl
    go false h = cc

-- a command in whose words clap finds no fault has its folder
pub has_folder : (s : Shape) (words : List Text) → list_all needs_value s.rules ≡ true → BeginsWithFolder s.rules → s.subcommand_negates_reqs ≡ false
    → level_fault s [] nothing_held words false [] ≡ [] → IsSome (first_of db (rows_after s.rules [] words))
has_folder s words all begins keeps none =
    let end = (walk s.rules [] nothing_held words).held in
    let past_walk = second (walk_fault s [] (walk_from nothing_held) words) _ none in
    let settles = first (settle_fault s.rules s.args_override_self end) _ past_walk in
    let past_settling = second (settle_fault s.rules s.args_override_self end) _ past_walk in
    let checks = second (defaults_fault (settled s.rules end).rows s.rules) (check_fault s (finished s.rules end) false) past_settling in
    let fine = fine-defaults s.rules (settled s.rules end).rows (fine-settled s.rules all s.args_override_self end settles
    (fine-walk s [] all words (walk_from nothing_held) (first (walk_fault s [] (walk_from nothing_held) words) _ none) tt)) in
    has_text (finished s.rules end) fine (required s.rules (finished s.rules end) s.subcommand_negates_reqs keeps begins (third _ _ _ checks))
