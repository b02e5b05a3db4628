use Rattle.std.proofs.Common.{◌≡◌, ℕ, ◌<◌, ◌∷◌, [], ◌++◌, List, length, ◌∙◌, sym, ap, arith}
use Rattle.std.proofs.lemmas.Grind.{common_steps}
use Rattle.std.specs.Prelude.{slice_set}
use Rattle.values.proofs.Buckets.{found_put}
use Rattle.values.specs.declared.name_index.NameEntry.{NameEntry}
use Rattle.values.specs.inner.Buckets.{bucket_of, bucket_at, AreFound}
use Rattle.values.proofs.name_index.NameIndex.add.Goals as goal

pub invariant_of-self-2 : goal.invariant_of-self-2
invariant_of-self-2 c =
    let entries : List NameEntry = c.self.inside.entries.items in
    let buckets : List (List ℕ) = c.self.inside.buckets.items in
    let e : NameEntry = record { name = c.in_ok-name.name; number = c.args.number } in
    let bound : c.bucket_of-bucket.result < length buckets = omega arith in
    let place : c.bucket_of-bucket.result ≡ bucket_of (length buckets) c.in_ok-name.name =
    c.bucket_of-bucket.ensures.bucket ∙ (λ j. bucket_of ((c.len.ensures ∙ c.self.inside.buckets.ok.0) j) (sym c.in_ok-name.ensures j)) in
    let found : AreFound (entries ++ e ∷ []) (slice_set buckets c.bucket_of-bucket.result (bucket_at buckets c.bucket_of-bucket.result ++ length entries ∷ [])) =
    found_put entries buckets e c.bucket_of-bucket.result c.self.invariant place bound in
    let same : c.reserve.new.self.items ≡ entries = c.in_ok-reserve.ensures.items in
    let len : c.len-2.result ≡ length entries = omega (arith, ap length same) in
    rw (c.push_reserved.ensures.items, same, c.in_ok-put_place.ensures.ok, len) found

pub invariant_of-self-in_err-put_place : goal.invariant_of-self-in_err-put_place
invariant_of-self-in_err-put_place c = grind (arith, common_steps)
