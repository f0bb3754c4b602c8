-- How a message is put together.
use Rattle.std.proofs.Common.{◌≡◌, ℕ, List, [], ◌∷◌, ◌++◌, length, codes, append_assoc}
use Rattle.std.specs.Prelude.{decimal}
use Rattle.http.specs.StatusCode.{status_text}
use Rattle.lab_wire_heads.specs.Messages.{date_field, Message, message_text}

regroup : (version status end date label kind name digits closing further body : List ℕ) → ((version ++ status) ++ end) ++ date ++ ((label ++ kind) ++ end) ++ ((name ++ digits) ++ end) ++ (closing ++ end) ++ further ++ end ++ body ≡ (version ++ (status ++ (end ++ (date ++ (label ++ (kind ++ ((end ++ name) ++ (digits ++ ((end ++ (closing ++ end)) ++ (further ++ end)))))))))) ++ body
regroup version status end date label kind name digits closing further body = simp append_assoc

-- a message as it is written: its head piece by piece, then its body
pub message_written : (m : Message) → message_text m ≡ (codes "HTTP/1.1 " ++ (status_text m.status ++ ((13 ∷ 10 ∷ []) ++ (date_field m.moment ++ (codes "Content-Type: " ++ (m.media_type ++ (((13 ∷ 10 ∷ []) ++ codes "Content-Length: ") ++ (decimal (length m.body) ++ (((13 ∷ 10 ∷ []) ++ (codes "Connection: close" ++ (13 ∷ 10 ∷ []))) ++ (m.further ++ (13 ∷ 10 ∷ []))))))))))) ++ m.body
unfolding message_text
message_written m =
    regroup (codes "HTTP/1.1 ") (status_text m.status) (13 ∷ 10 ∷ []) (date_field m.moment)
    (codes "Content-Type: ") m.media_type (codes "Content-Length: ") (decimal (length m.body))
    (codes "Connection: close") m.further m.body
