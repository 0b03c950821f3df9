-- A MODULE WITH PORTS is a module with ports before the `);` that ends its first line, and lines before its last line, `endmodule`. Without them it is the module.
use Rattle.std.specs.Prelude.{◌≡◌, ℕ, true, List, ◌++◌, codes, All}
use Rattle.kp_core_ports.specs.Core.{is_in_line}

pub record IsExtended (text ports lines whole : List ℕ) : Type 0 where
  pub front : List ℕ
  pub middle : List ℕ
  pub one_line : All (λ byte. is_in_line byte ≡ true) front
  pub text_is : text ≡ front ++ (codes ");\n" ++ (middle ++ codes "endmodule\n"))
  pub whole_is : whole ≡ front ++ (ports ++ (codes ");\n" ++ (middle ++ (lines ++ codes "endmodule\n"))))
