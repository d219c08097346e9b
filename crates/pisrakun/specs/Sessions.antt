-- Which session a store calls in.
use Rattle.store_client.specs.Caller.{Caller}
use Rattle.pisrakun.specs.declared.label.Label.{Label}

-- the store as it calls in this session, at this row, after this place and this change
abbrev pub labelled : Caller → Label → Caller
labelled store label = record { pass = store.pass; session = label.session; row = label.row; place = label.place; change = label.change }

-- the session, the next row, the last place and the last change of a store
abbrev pub label_of : Caller → Label
label_of store = record { session = store.session; row = store.row; place = store.place; change = store.change }
