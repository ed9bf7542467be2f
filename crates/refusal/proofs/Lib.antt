-- How rules and promises are read by their users.
--
--   OutcomeLaws   a rule read backwards: where it made something, every line passed
--   FillsLaws     what an answer says of the rule behind it, and how a refusal passes on
--   OwnLaws       the same for a working list of the call's own
pub mod OutcomeLaws
pub mod FillsLaws
pub mod OwnLaws
