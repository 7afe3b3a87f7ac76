-- The bytes of a response, from its pieces.
use Rattle.std.proofs.Common.{◌≡◌, ℕ, Bool, List, [], ◌++◌, length, if◌then◌else◌, ◌==◌, codes, ap, ◌∙◌, append_assoc, decimal}
use Rattle.cs_model_serving.specs.Responses.{reason, head_line, wrapped}

regroup : (p d s r e a t l n c body : List ℕ) → (p ++ (d ++ (s ++ (r ++ (e ++ (a ++ ((t ++ (e ++ l)) ++ (n ++ (e ++ (c ++ e)))))))))) ++ body
    ≡ (((((((((p ++ d) ++ s) ++ r) ++ e) ++ a) ++ (t ++ e)) ++ ((l ++ n) ++ e)) ++ c) ++ e) ++ body
regroup p d s r e a t l n c body = simp append_assoc

abbrev pieces : ℕ → List ℕ → List ℕ → ℕ → List ℕ → List ℕ
pieces status words allow size closing =
    codes "HTTP/1.1 " ++ (decimal status ++ (codes " " ++ (words ++ (codes "\r\n" ++ (allow ++ (codes "Content-Type: application/json\r\nContent-Length: " ++ (decimal size ++ (codes "\r\n" ++ (closing ++ codes "\r\n")))))))))

pub wrapped_pieces : (status : ℕ) (close : Bool) (body : List ℕ)
    → pieces status (reason status) (if status == 405 then head_line (codes "Allow: GET") else []) (length body) (if close then head_line (codes "Connection: close") else []) ++ body ≡ wrapped status close body
unfolding wrapped
wrapped_pieces status close body =
    regroup (codes "HTTP/1.1 ") (decimal status) (codes " ") (reason status) (codes "\r\n") (if status == 405 then head_line (codes "Allow: GET") else [])
    (codes "Content-Type: application/json") (codes "Content-Length: ") (decimal (length body)) (if close then head_line (codes "Connection: close") else []) body

pub wrapped_by : (status : ℕ) (close : Bool) (body words allow closing head items : List ℕ) → words ≡ reason status → allow ≡ (if status == 405 then head_line (codes "Allow: GET") else [])
    → closing ≡ (if close then head_line (codes "Connection: close") else []) → head ≡ pieces status words allow (length body) closing → items ≡ head ++ body → items ≡ wrapped status close body
wrapped_by status close body words allow closing head items e f g h i =
    i ∙ ap (λ l. l ++ body) (h ∙ (λ j. pieces status (e j) (f j) (length body) (g j))) ∙ wrapped_pieces status close body
