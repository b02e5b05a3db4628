-- Worked examples of how a text is cut, and of its front, by computation.
use Rattle.std.proofs.Common.{◌≡◌, [], ◌∷◌, codes, refl}
use Rattle.sorting.specs.Stanzas.{ended_lines, stanzas_from, stanzas}
use Rattle.sorting.specs.Heads.{front_of, front}
use Rattle.sorting.specs.Sorted.{lacking, gap, put_behind, joined}
use Rattle.sorting.specs.Reads.{record_lines}
use Rattle.ldif_lines.specs.Records.{records_from, with_first, body_of_block, body_of, joined_block, continuation}
use Rattle.ldif_lines.specs.Records as reader

-- a stanza ends with the first empty line behind a line of a record; what stands before it is its own
two_stanzas : stanzas (codes "# a\n\ndn: a\n\n\ndn: b\n") ≡ codes "# a\n\ndn: a\n\n" ∷ codes "\ndn: b\n" ∷ []
unfolding stanzas_from ended_lines
two_stanzas = refl

-- a comment that is continued is no record, and a block's first line is one, however it begins
continued : stanzas (codes "# a\n b\n\n c\n\n") ≡ codes "# a\n b\n\n c\n\n" ∷ []
unfolding stanzas_from ended_lines
continued = refl

returns : stanzas (codes "dn: a\r\n\r\ndn: b") ≡ codes "dn: a\r\n\r\n" ∷ codes "dn: b" ∷ []
unfolding stanzas_from ended_lines
returns = refl

closed : lacking (codes "dn: a\n\n") ≡ []
unfolding lacking
closed = refl

closed_by_returns : lacking (codes "dn: a\r\n\r\n") ≡ []
unfolding lacking
closed_by_returns = refl

one_end : lacking (codes "dn: a\n") ≡ codes "\n"
unfolding lacking
one_end = refl

no_end : lacking (codes "dn: a") ≡ codes "\n\n"
unfolding lacking
no_end = refl

-- a CR at the end of the text belongs to its line, from which a reader takes one before an LF
return_end : lacking (codes "dn: a\r") ≡ codes "\r\n\n"
unfolding lacking
return_end = refl

moved : joined (codes "dn: b" ∷ codes "dn: a\n\n" ∷ []) ≡ codes "dn: b\n\ndn: a\n\n"
unfolding joined lacking
moved = refl

-- ---- behind a version

-- a line that begins with a space would go on with the version
parted : put_behind (codes "version: 1\n") (codes " a\n\n" ∷ codes "dn: b" ∷ []) ≡ codes "version: 1\n\n a\n\ndn: b"
unfolding joined lacking
parted = refl

not_parted : put_behind (codes "version: 1\n") (codes "dn: b\n\n" ∷ codes " a" ∷ []) ≡ codes "version: 1\ndn: b\n\n a"
unfolding joined lacking
not_parted = refl

closed_head : gap (codes "version: 1\n\n") (codes " a" ∷ []) ≡ []
unfolding lacking
closed_head = refl

no_head : gap [] (codes " a" ∷ []) ≡ []
no_head = refl

-- ---- what a reader finds

-- the version is the first line of the first record where no empty line stands between
first_lines : record_lines (codes "version: 1\ndn: a\n b\n\n# c\n\ndn: d\n") ≡ (codes "version: 1" ∷ codes "dn: ab" ∷ []) ∷ (codes "dn: d" ∷ []) ∷ []
unfolding records_from with_first body_of_block body_of joined_block reader.joined continuation
first_lines = refl

by_itself : record_lines (codes "dn: a\n b\n\n# c\n\n") ≡ (codes "dn: ab" ∷ []) ∷ []
unfolding records_from with_first body_of_block body_of joined_block reader.joined continuation
by_itself = refl

-- ---- the front of a text, which is its head where it has the version

with_version : front (codes "# dump\nversion: 1\n\n\n# a\ndn: a\n") ≡ codes "# dump\nversion: 1\n\n\n"
unfolding front_of ended_lines
with_version = refl

directly_before : front (codes "version:\n 1\n# a\ndn: a\n\n") ≡ codes "version:\n 1\n"
unfolding front_of ended_lines
directly_before = refl

behind_empty_lines : front (codes "\n# a\n  b\n\r\ndn: a\nou: b\n") ≡ codes "\n# a\n  b\n\r\ndn: a\n"
unfolding front_of ended_lines
behind_empty_lines = refl
