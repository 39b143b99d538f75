use Rattle.std.proofs.Common.{◌≡◌, string_bytes}
use Rattle.std.proofs.lemmas.Result.{IfOk-at_ok}
use Rattle.io_edge.proofs.ShelvedFiles.{insert-shelved}
use Rattle.io_edge.proofs.shelf.Shelf.insert.Goals as goal

-- the map has the file at the key, which has the name's bytes
pub returns-clause-ok : goal.returns-clause-ok
returns-clause-ok c =
    let put = insert-shelved c.self.inside.files c.insert.new.self _ _ c.in_ok-insert.ensures.updates in
    let key = IfOk-at_ok (λ s. string_bytes s ≡ c.args.name.now) c.in_ok-key.was c.from_str.ensures.ok in
    let file = IfOk-at_ok (λ v. v.items ≡ c.args.bytes.now) c.in_ok-file.was c.from_slice.ensures.items in
    rw (key, file, c.self.view_is) at put
