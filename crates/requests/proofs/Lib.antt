-- Laws of requests.
--
--   WordLaws      a word is held against one row after the other
--   RequestLaws   what the code finds of a line is what the rule says
--   LeadingLaws   the same of an identifier that is typed before other arguments
mod WordLaws
mod RequestLaws
mod LeadingLaws
